-- Some of the transitions, and the automata that they make.
use Rattle.std.proofs.Common.{◌≡◌, ℕ, ◌<◌, ◌↔◌, ◌&&◌, ◌||◌, inl, inr, Bool, true, false, not, List, [], ◌∷◌, length, get_or, filter, All, Contains, refl, sym, ◌∙◌, subst, arith, le_refl}
use Rattle.std.proofs.lemmas.Bool.{cases_lt, eqb-true, eq-eqb, false≢true}
use Rattle.std.proofs.lemmas.List.{get_or_default}
use Rattle.std.proofs.lemmas.List.Elements.{Contains-get_or}
use Rattle.std.proofs.lemmas.List.Kept.{AllPairs-filter}
use Rattle.std.proofs.lemmas.List.Sorted.{Contains-permutation, IsPermutation-sym}
use Rattle.std.proofs.lemmas.List.Sums.{length-filter, count_by-le-length}
use Rattle.auto_core.specs.Automaton.{Automaton, IsAutomaton, IsBefore, is_accepting, trans}
use Rattle.auto_core.specs.Build.{IsBuilt}
use Rattle.auto_core.specs.Parts.{AreParts}
use Rattle.auto_core.specs.declared.parts.Trans.{Trans}
use Rattle.auto_core.proofs.MemberLemmas.{filter_has, filter_from, no_repeat}
use Rattle.auto_core.proofs.MoveLemmas.{move_in_range}
use Rattle.auto_core.proofs.PathLemmas.{accepting_from_test, test_from_accepting}
use Rattle.auto_core.proofs.SetLemmas.{transitions_rise}
use Rattle.strong_components.specs.Graph.{at}
use Rattle.useful_states.specs.Cycles.{AreComponentNumbers}
use Rattle.useful_states.specs.Gathering.{ListsMembers}
use Rattle.useful_states.specs.declared.gathering.Gathered.{Gathered}
use Rattle.useful_states.proofs.CycleLemmas.{numbers_fall}
use Rattle.more_accepting.specs.More.{AcceptsMore, IsMoreAccepting}
use Rattle.more_accepting.specs.Making.{ArePart, HasParts, is_beside, is_inside, IsBeside, IsInside}

-- ---- parts

never_before : (t : Trans) → IsBefore t t → ⊥
never_before t h = never t.source t.label t.target h
  where
    never : (a b c : ℕ) → IsBefore (trans a b c) (trans a b c) → ⊥
    never a b c h = omega arith

pub filtered_part : (A : Automaton) → IsAutomaton A → (test : Trans → Bool) → ArePart A (filter test A.transitions)
filtered_part A valid test = record {
  few = omega (arith, length-filter test A.transitions, count_by-le-length test A.transitions);
  inside = λ t h. (filter_from test A.transitions t h).0;
  once = no_repeat IsBefore never_before (filter test A.transitions) (AllPairs-filter IsBefore test A.transitions (transitions_rise A valid));
}

pub whole_part : (A : Automaton) → IsAutomaton A → ArePart A A.transitions
whole_part A valid = record {
  few = le_refl (length A.transitions);
  inside = λ t h. h;
  once = no_repeat IsBefore never_before A.transitions (transitions_rise A valid);
}

all_from : {X : Type 0} (P : X → Type 0) (xs : List X) → ((x : X) → Contains xs x → P x) → All P xs
all_from P xs f k d lt = f (get_or xs k d) (Contains-get_or xs k d lt)

module _ (A : Automaton) (ts : List Trans) (g : Gathered) (listed : ListsMembers g) where
  pub are_parts : IsAutomaton A → ArePart A ts → g.set.states ≡ A.states → AreParts A.states A.labels A.initial ts g.list.items
  are_parts valid part size = record {
    few = omega (arith, part.few, valid.few);
    in_states = (
      valid.initial_is_state,
      all_from (λ t. (t.source < A.states) × (t.target < A.states)) ts (λ t h. let r = move_in_range A valid t.source t.label t.target (part.inside t h) in (r.0, r.1)),
      λ k d lt. subst (λ x. x < A.states) (get_or_default g.list.items k 0 d lt) (omega (arith, listed.below k lt, size)),
    );
    in_labels = all_from (λ t. t.label < A.labels) ts (λ t h. (move_in_range A valid t.source t.label t.target (part.inside t h)).2);
    no_transition_twice = part.once;
    no_state_twice = λ (i, j, differ, i_in, j_in, same). elim (cases_lt i j) [
      | inl lt ↦ listed.different i j lt j_in (same 0)
      | inr ge ↦ listed.different j i (omega (arith, ge, differ)) i_in (sym (same 0))
    ];
  }

  pub has_parts : (B : Automaton) → IsBuilt A.states A.labels A.initial ts g.list.items B → HasParts A ts g.set.members B
  has_parts B b = record {
    valid = b.valid;
    states = b.states_given;
    labels = b.labels_given;
    initial = b.initial_given;
    moves = λ t. (
      λ h. Contains-permutation B.transitions ts t (IsPermutation-sym ts B.transitions b.transitions_given) h,
      λ h. Contains-permutation ts B.transitions t b.transitions_given h,
    );
    accepting = λ q. (
      λ h.
          let (k, k_in, is) = Contains-permutation B.accepting g.list.items q (IsPermutation-sym g.list.items B.accepting b.accepting_given) h in
          subst (λ x. Contains g.set.members x) (get_or_default g.list.items k 0 q k_in ∙ is) (listed.sound k k_in),
      λ h.
          let (k, k_in, is) = listed.full q h in
          Contains-permutation g.list.items B.accepting q b.accepting_given (k, k_in, get_or_default g.list.items k q 0 k_in ∙ is),
    );
  }

-- ---- moves between states that do not accept

both_fail : (b c : Bool) → (not b && not c) ≡ true → (b ≡ true → ⊥) × (c ≡ true → ⊥)
both_fail true c e = absurd (false≢true e)
both_fail false true e = absurd (false≢true e)
both_fail false false e = (false≢true, false≢true)

both_pass : (b c : Bool) → (b ≡ true → ⊥) → (c ≡ true → ⊥) → (not b && not c) ≡ true
both_pass true c f g = absurd (f refl)
both_pass false true f g = absurd (g refl)
both_pass false false f g = refl

pub beside_from : (A B : Automaton) (members : List ℕ) → HasParts A (filter (is_beside A) A.transitions) members B → IsBeside A B
beside_from A B members h = record {
  valid = h.valid;
  states = h.states;
  moves = λ p a q. (
    λ m.
        let (there, is) = filter_from (is_beside A) A.transitions (trans p a q) ((h.moves (trans p a q)).0 m) in
        let fail = both_fail (is_accepting A p) (is_accepting A q) is in
        (there, λ acc. fail.0 (test_from_accepting A p acc), λ acc. fail.1 (test_from_accepting A q acc)),
    λ (m, not_p, not_q).
        (h.moves (trans p a q)).1 (filter_has (is_beside A) A.transitions (trans p a q) m (both_pass (is_accepting A p) (is_accepting A q) (λ t. not_p (accepting_from_test A p t)) (λ t. not_q (accepting_from_test A q t)))),
  );
}

-- ---- moves within components

pub inside_from : (A B : Automaton) (numbers members : List ℕ) → AreComponentNumbers A numbers → HasParts A (filter (is_inside numbers) A.transitions) members B → IsInside A B
inside_from A B numbers members are h = record {
  valid = h.valid;
  states = h.states;
  moves = λ p a q. (
    λ m.
        let (there, is) = filter_from (is_inside numbers) A.transitions (trans p a q) ((h.moves (trans p a q)).0 m) in
        let same = eqb-true (at numbers p) (at numbers q) is in
        (there, ((a ∷ [], is_accepting A q || false, (q, false, there, (refl, refl), refl)), are.joined p a q there (sym same))),
    λ (m, (ahead, (w, flag, back))).
        let down = are.fall p a q m in
        let up = numbers_fall A numbers are q w p flag back in
        (h.moves (trans p a q)).1 (filter_has (is_inside numbers) A.transitions (trans p a q) m (eq-eqb (at numbers p) (at numbers q) (omega arith))),
  );
}

-- ---- the automaton that accepts more

pub more_from : (A B : Automaton) (members : List ℕ) → ((q : ℕ) → Contains members q ↔ AcceptsMore A q) → HasParts A A.transitions members B → IsMoreAccepting A B
more_from A B members are h = record {
  valid = h.valid;
  states = h.states;
  labels = h.labels;
  initial = h.initial;
  moves = λ p a q. h.moves (trans p a q);
  accepting = λ q. (λ acc. (are q).0 ((h.accepting q).0 acc), λ more. (h.accepting q).1 ((are q).1 more));
}
