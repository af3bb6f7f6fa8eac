-- Members as lists, useful states, and the classes of a closed relation.
use Rattle.std.proofs.Common.{◌≡◌, ℕ, ◌<◌, ◌↔◌, Bool, ◌==◌, List, [], ◌∷◌, filter, Contains, sym, subst, arith, ◌∙◌}
use Rattle.std.specs.List.{list_any, range_with_len}
use Rattle.std.specs.List.Sorted.{IsStrictlyIncreasing}
use Rattle.std.proofs.lemmas.List.Kept.{IsStrictlyIncreasing-filter}
use Rattle.auto_core.specs.Automaton.{Automaton, IsAutomaton}
use Rattle.auto_core.specs.Game.{Close, Holds}
use Rattle.auto_core.specs.Quotient.{AreClassesOf}
use Rattle.auto_core.specs.Members.{Members}
use Rattle.auto_core.specs.Run.{Run}
use Rattle.auto_core.specs.Useful.{AreUseful}
use Rattle.auto_core.specs.declared.parts.Mode.{Mode}
use Rattle.auto_core.proofs.MoveLemmas.{move_in_range}
use Rattle.auto_core.proofs.PathLemmas.{Contains-from_test, test_from_Contains}
use Rattle.auto_core.proofs.MemberLemmas.{filter_has, filter_from, range_has, range_rises}
use Rattle.bit_rel.specs.Relation.{Relation, IsClosed}

-- whether the number is a member
abbrev pub is_member : List ℕ → ℕ → Bool
is_member members q = list_any (λ x. x == q) members

pub members_rise : (S : Members) → (made : List ℕ) → made ≡ filter (is_member S.members) (range_with_len 0 S.states) → IsStrictlyIncreasing made
members_rise S made is = subst IsStrictlyIncreasing (sym is) (IsStrictlyIncreasing-filter (is_member S.members) (range_with_len 0 S.states) (range_rises S.states))

pub same_as_members : (S : Members) → ((q : ℕ) → Contains S.members q → q < S.states) → (made : List ℕ) → made ≡ filter (is_member S.members) (range_with_len 0 S.states) → (q : ℕ) → Contains made q ↔ Contains S.members q
same_as_members S below made is q = (
  λ h. Contains-from_test S.members q (filter_from (is_member S.members) (range_with_len 0 S.states) q (subst (λ l. Contains l q) is h)).1,
  λ h. subst (λ l. Contains l q) (sym is)
      (filter_has (is_member S.members) (range_with_len 0 S.states) q (range_has S.states q (below q h)) (test_from_Contains S.members q h)),
)

-- what is reached is a state
run_below : (A : Automaton) → IsAutomaton A → (p : ℕ) (w : List ℕ) (q : ℕ) (flag : Bool) → p < A.states → Run A p w q flag → q < A.states
run_below A valid p [] q flag p_in (e, f) = omega arith
run_below A valid p (a ∷ w) q flag p_in (next, later, move, rest, is) = run_below A valid next w q later (move_in_range A valid p a next move).1 rest

pub useful_below : (A : Automaton) (mode : Mode) (states : List ℕ) → IsAutomaton A → AreUseful A mode states → (q : ℕ) → Contains states q → q < A.states
useful_below A mode states valid are q h =
    let (w, flag, run) = ((are q).0 h).reached in
    run_below A valid A.initial w q flag valid.initial_is_state run

-- ---- relations

-- the classes of the closed relation are those of the closure
pub classes_as : (old new : Relation) → IsClosed old new → (classes : List ℕ) → AreClassesOf new.size (Holds new.pairs) classes → AreClassesOf old.size (Close (Holds old.pairs)) classes
classes_as old new closed classes are =
    let size = closed.size in
    record {
      valid = are.valid;
      len = are.len ∙ size;
      joins = λ p q p_in q_in. (
        λ e.
            let both = (are.joins p q (omega arith) (omega arith)).0 e in
            (((closed.pairs p q).0 both.0).2, ((closed.pairs q p).0 both.1).2),
        λ (there, back). (are.joins p q (omega arith) (omega arith)).1 ((closed.pairs p q).1 (p_in, q_in, there), (closed.pairs q p).1 (q_in, p_in, back)),
      );
    }
