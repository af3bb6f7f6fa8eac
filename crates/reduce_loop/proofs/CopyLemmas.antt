-- Copies of automata, and automata with the same parts.
use Rattle.std.proofs.Common.{◌≡◌, ℕ, ◌<◌, true, List, filter, Contains, IsTrue, sym, ap, ◌∙◌, subst, arith, get_or}
use Rattle.std.specs.List.{range_with_len}
use Rattle.std.proofs.lemmas.Bool.Decides.{nat_tests}
use Rattle.std.proofs.lemmas.List.Elements.{Contains-get_or}
use Rattle.std.proofs.lemmas.List.Sorted.{Contains-permutation, IsPermutation-sym}
use Rattle.std.proofs.lemmas.List.Kept.{IsStrictlyIncreasing-filter, AllPairs-from_increasing}
use Rattle.auto_core.specs.Automaton.{Automaton, IsAutomaton, IsAccepting, is_accepting, IsBefore, trans}
use Rattle.auto_core.specs.Build.{IsBuilt}
use Rattle.auto_core.specs.Parts.{AreParts}
use Rattle.auto_core.specs.declared.parts.Trans.{Trans}
use Rattle.auto_core.proofs.PathLemmas.{accepting_from_test, test_from_accepting}
use Rattle.auto_core.proofs.MemberLemmas.{filter_has, filter_from, range_has, range_from, range_rises, no_repeat}
use Rattle.auto_core.proofs.SetLemmas.{transitions_rise, same_automaton}
use Rattle.auto_core.proofs.Order.{same_trans}
use Rattle.quotient.proofs.DistinctLemmas.{equal}
use Rattle.quotient.proofs.MergeLaws.{accepting_below}
use Rattle.reduce_loop.proofs.SizeLemmas.{before_and_after}

-- the accepting states, ascending
abbrev pub accepting_list : Automaton → List ℕ
accepting_list A = filter (is_accepting A) (range_with_len 0 A.states)

accepting_from_list : (A : Automaton) (q : ℕ) → Contains (accepting_list A) q → IsAccepting A q
accepting_from_list A q h = accepting_from_test A q (filter_from (is_accepting A) (range_with_len 0 A.states) q h).1

list_from_accepting : (A : Automaton) → IsAutomaton A → (q : ℕ) → IsAccepting A q → Contains (accepting_list A) q
list_from_accepting A valid q h = filter_has (is_accepting A) (range_with_len 0 A.states) q (range_has A.states q (accepting_below A valid q h)) (test_from_accepting A q h)

pub copy_parts : (A : Automaton) → IsAutomaton A → AreParts A.states A.labels A.initial A.transitions (accepting_list A)
copy_parts A valid = record {
  few = valid.few;
  in_states = (
    valid.initial_is_state,
    λ k d lt. let r = valid.in_range k d lt in (r.0, r.1),
    λ k d lt. range_from A.states (get_or (accepting_list A) k d) (filter_from (is_accepting A) (range_with_len 0 A.states) (get_or (accepting_list A) k d) (Contains-get_or (accepting_list A) k d lt)).0,
  );
  in_labels = λ k d lt. (valid.in_range k d lt).2;
  no_transition_twice = no_repeat IsBefore (λ t h. before_and_after t t h h) A.transitions (transitions_rise A valid);
  no_state_twice = no_repeat (λ x y. x < y) (λ x h. omega arith) (accepting_list A)
      (AllPairs-from_increasing (accepting_list A) (IsStrictlyIncreasing-filter (is_accepting A) (range_with_len 0 A.states) (range_rises A.states)));
}

pub copy_built : (A B : Automaton) → IsAutomaton A → IsBuilt A.states A.labels A.initial A.transitions (accepting_list A) B → B ≡ A
copy_built A B valid b = same_automaton B A b.valid valid b.states_given b.labels_given b.initial_given
    (λ p a q. (
      λ m. Contains-permutation B.transitions A.transitions (trans p a q) (IsPermutation-sym A.transitions B.transitions b.transitions_given) m,
      λ m. Contains-permutation A.transitions B.transitions (trans p a q) b.transitions_given m,
    ))
    (λ q. (
      λ h. accepting_from_list A q (Contains-permutation B.accepting (accepting_list A) q (IsPermutation-sym (accepting_list A) B.accepting b.accepting_given) h),
      λ h. Contains-permutation (accepting_list A) B.accepting q b.accepting_given (list_from_accepting A valid q h),
    ))

-- whether two transitions are equal, part by part
equal_itself : (t : Trans) → equal t t ≡ true
equal_itself t = go t.source t.label t.target
  where
    go : (a b c : ℕ) → equal (trans a b c) (trans a b c) ≡ true
    go a b c = grind (arith, nat_tests)

pub equal_decides : (t u : Trans) → (IsTrue (equal t u) → t ≡ u) × (t ≡ u → IsTrue (equal t u))
equal_decides t u = ((λ h. same_trans t u (sym h)), (λ e. subst (λ x. equal t x ≡ true) e (equal_itself t)))

-- the same states are accepting
abbrev pub AcceptAlike : Automaton → Automaton → Type 0
AcceptAlike A B = (q : ℕ) → q < A.states → is_accepting A q ≡ is_accepting B q

pub same_parts :
    (A B : Automaton)
    → IsAutomaton A
    → IsAutomaton B
    → A.states ≡ B.states
    → A.labels ≡ B.labels
    → A.initial ≡ B.initial
    → A.transitions ≡ B.transitions
    → AcceptAlike A B
    → A ≡ B
same_parts A B valid other states labels initial transitions alike = same_automaton A B valid other states labels initial
    (λ p a q. (λ m. subst (λ l. Contains l (trans p a q)) transitions m, λ m. subst (λ l. Contains l (trans p a q)) (sym transitions) m))
    (λ q. (
      λ h. accepting_from_test B q (sym (alike q (accepting_below A valid q h)) ∙ test_from_accepting A q h),
      λ h. let lt = accepting_below B other q h in accepting_from_test A q (alike q (omega arith) ∙ test_from_accepting B q h),
    ))

pub alike_if_same : (A B : Automaton) → A ≡ B → AcceptAlike A B
alike_if_same A B e q lt = ap (λ X. is_accepting X q) e
