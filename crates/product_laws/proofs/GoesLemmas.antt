-- Where a deterministic automaton goes: its runs, cycles of pairs, and runs that are lost.
use Rattle.std.proofs.Common.{◌≡◌, ℕ, zero, suc, ◌<◌, ◌≤◌, Bool, true, false, ◌||◌, List, [], ◌∷◌, ◌++◌, length, refl, sym, ap, ◌∙◌, subst, inl, inr, arith, append-nil}
use Rattle.std.proofs.lemmas.Bool.{or_left, or_right, false≢true, cases_Bool}
use Rattle.std.proofs.lemmas.List.Elements.{All-contains}
use Rattle.auto_core.specs.Automaton.{Automaton, IsAutomaton, IsAccepting, is_accepting}
use Rattle.auto_core.specs.Run.{Run, repeated}
use Rattle.auto_core.proofs.PathLemmas.{run_join, accepting_from_test, test_from_accepting, or-assoc}
use Rattle.auto_laws.proofs.PumpingLemmas.{move_in_range}
use Rattle.product_laws.specs.Ranked.{IsDeterministic}
use Rattle.product_laws.specs.Reached.{Goes, LeadsTo, IsReachedPair, IsBadCycle, ReachesGoal}
use Rattle.product_laws.specs.Laws.{CycleSeparates, LostRunSeparates, IncludedHasNoFault}

pub goes_join : (B : Automaton) (q : ℕ) (w : List ℕ) (s : ℕ) (flag : Bool) (x : List ℕ) (t : ℕ) (more : Bool) → Goes B q w s flag → Goes B s x t more → Goes B q (w ++ x) t (flag || more)
goes_join B q [] s flag x t more (is, plain) h = subst (λ n. Goes B n x t (flag || more)) (sym is) (subst (λ b. Goes B s x t (b || more)) (sym plain) h)
goes_join B q (a ∷ w) s flag x t more (next, later, step, rest, is) h = (
  next,
  later || more,
  step,
  goes_join B next w s later x t more rest h,
  ap (λ b. b || more) is ∙ sym (or-assoc (is_accepting B next) later more),
)

pub goes_round : (B : Automaton) (q : ℕ) (v : List ℕ) (m : ℕ) → Goes B q v q false → Goes B q (repeated v m) q false
goes_round B q v zero h = (refl, refl)
goes_round B q v (suc m) h = goes_join B q v q false (repeated v m) q false h (goes_round B q v m h)

-- A run and where a deterministic automaton goes are one.
run_is_way : (B : Automaton) → IsDeterministic B → (q : ℕ) (w : List ℕ) (s t : ℕ) (flag other : Bool) → Run B q w s flag → Goes B q w t other → (s ≡ t) × (flag ≡ other)
run_is_way B det q [] s t flag other (is, plain) (same, none) = (sym is ∙ same, plain ∙ sym none)
run_is_way B det q (a ∷ w) s t flag other (next, later, move, rest, is) (place, more, step, going, same) =
    let at : next ≡ place = elim step [ inl goes ↦ det q a next place move goes | inr (out, none) ↦ absurd (none next move) ] in
    let all = run_is_way B det next w s t later more rest (subst (λ n. Goes B n w t more) (sym at) going) in
    (all.0, is ∙ ap (λ n. is_accepting B n || later) at ∙ ap (λ b. is_accepting B place || b) all.1 ∙ sym same)

pub cycle_separates : CycleSeparates
cycle_separates A B u v p q valid det (left, right, run, goes) (turn, round) = (
  record {
    before = 0;
    turns = 1;
    state = p;
    flag = left;
    enters = subst (λ l. Run A A.initial l p left) (sym (append-nil u)) run;
    some_turn = omega arith;
    cycles = subst (λ l. Run A p l p true) (sym (append-nil v)) turn;
  },
  λ h.
      let front = run_is_way B det B.initial (u ++ repeated v h.before) h.state q h.flag (right || false) h.enters
      (goes_join B B.initial u q right (repeated v h.before) q false goes (goes_round B q v h.before round)) in
      let back = run_is_way B det h.state (repeated v h.turns) h.state q true false h.cycles
      (subst (λ n. Goes B n (repeated v h.turns) q false) (sym front.0) (goes_round B q v h.turns round)) in
      false≢true (sym back.1),
)

pub not_below : (n : ℕ) → n < n → ⊥
not_below n lt = omega arith

pub accepting_below : (A : Automaton) → IsAutomaton A → (q : ℕ) → IsAccepting A q → q < A.states
accepting_below A valid q h = All-contains (λ x. x < A.states) A.accepting q valid.accepting_in_range h

-- No state is not accepting.
pub no_state_is_plain : (B : Automaton) → IsAutomaton B → is_accepting B B.states ≡ false
no_state_is_plain B valid = elim (cases_Bool (is_accepting B B.states)) [
  | inl on ↦ absurd (not_below B.states (accepting_below B valid B.states (accepting_from_test B B.states on)))
  | inr off ↦ off
]

-- From no state B goes to no state.
stays_lost : (B : Automaton) → IsAutomaton B → (w : List ℕ) → Goes B B.states w B.states false
stays_lost B valid [] = (refl, refl)
stays_lost B valid (a ∷ w) = (
  B.states,
  false,
  inr (refl, λ t move. not_below B.states (move_in_range B valid B.states a t move).0),
  stays_lost B valid w,
  sym (ap (λ b. b || false) (no_state_is_plain B valid)),
)

-- A run on a word that is not empty passes its end.
pub passes_end : (A : Automaton) (p : ℕ) (w : List ℕ) (q : ℕ) (flag : Bool) → 1 ≤ length w → IsAccepting A q → Run A p w q flag → flag ≡ true
passes_end A p [] q flag some at run = absurd (omega arith)
passes_end A p (a ∷ []) q flag some at (next, later, move, rest, is) =
    is ∙ or_left (is_accepting A next) later (test_from_accepting A next (subst (λ n. IsAccepting A n) (sym rest.0) at))
passes_end A p (a ∷ b ∷ w) q flag some at (next, later, move, rest, is) =
    is ∙ or_right (is_accepting A next) later (passes_end A next (b ∷ w) q later (omega arith) at rest)

-- The lost run, with its words.
pub record LostCycle (A B : Automaton) : Type 0 where
  pub goal : ℕ
  pub prefix : List ℕ
  pub turn : List ℕ
  pub leads : LeadsTo A B prefix goal B.states
  pub cycle : IsBadCycle A B goal B.states turn

pub lost_cycle : (A B : Automaton) (p : ℕ) → IsAutomaton B → IsReachedPair A B p B.states → ReachesGoal A p → LostCycle A B
lost_cycle A B p valid (w, (left, right, run, goes)) (goal, (x, f, ahead), (at, (v, flag, some, round))) =
    let marked : flag ≡ true = passes_end A goal v goal flag some at round in
    record {
      goal = goal;
      prefix = w ++ x;
      turn = v;
      leads = (
        left || f,
        right || false,
        run_join A A.initial w p left x goal f run ahead,
        goes_join B B.initial w B.states right x B.states false goes (stays_lost B valid x),
      );
      cycle = (subst (λ b. Run A goal v goal b) marked round, stays_lost B valid v);
    }

pub lost_run_separates : LostRunSeparates
lost_run_separates A B p valid det reached ahead =
    let c = lost_cycle A B p valid reached ahead in
    (c.prefix, c.turn, cycle_separates A B c.prefix c.turn c.goal B.states valid det c.leads c.cycle)

pub included_has_no_fault : IncludedHasNoFault
included_has_no_fault A B valid det included = record {
  no_cycle = λ p q v reached cycle.
      let s = cycle_separates A B reached.0 v p q valid det reached.1 cycle in
      s.1 (included reached.0 v s.0);
  no_lost_run = λ p reached ahead.
      let s = lost_run_separates A B p valid det reached ahead in
      s.2.1 (included s.0 s.1 s.2.0);
}
