-- An automaton that accepts in other states.
use Rattle.std.proofs.Common.{◌≡◌, ℕ, true, List}
use Rattle.std.proofs.lemmas.List.Sorted.{Contains-permutation, IsPermutation-sym}
use Rattle.auto_core.specs.Automaton.{Automaton, IsAutomaton, trans}
use Rattle.auto_core.specs.Build.{IsBuilt}
use Rattle.auto_core.specs.Parts.{AreParts}
use Rattle.quotient.proofs.MergedLemmas.{increasing_once}
use Rattle.letter_classes.proofs.ColumnLemmas.{once}
use Rattle.cert_value.specs.WellFormed.{ascend}
use Rattle.log_check.proofs.ShapeLemmas.{rises}
use Rattle.log_check.specs.Parts.{AreStates}
use Rattle.proof_front.specs.Front.{AcceptsJustIn}

pub parts_of_just : (A : Automaton) (states : List ℕ) → IsAutomaton A → AreStates A states → ascend states ≡ true → AreParts A.states A.labels A.initial A.transitions states
parts_of_just A states valid within up = record {
  few = valid.few;
  in_states = (valid.initial_is_state, (λ k d lt. let r = valid.in_range k d lt in (r.0, r.1)), within);
  in_labels = λ k d lt. (valid.in_range k d lt).2;
  no_transition_twice = once A valid;
  no_state_twice = increasing_once states (rises states up);
}

pub just_built : (A B : Automaton) (states : List ℕ) → IsBuilt A.states A.labels A.initial A.transitions states B → AcceptsJustIn A states B
just_built A B states b = record {
  valid = b.valid;
  states_same = b.states_given;
  labels = b.labels_given;
  initial = b.initial_given;
  moves = λ p a q. (
    λ h. Contains-permutation B.transitions A.transitions (trans p a q) (IsPermutation-sym A.transitions B.transitions b.transitions_given) h,
    λ h. Contains-permutation A.transitions B.transitions (trans p a q) b.transitions_given h,
  );
  accepting = λ q. (
    λ h. Contains-permutation B.accepting states q (IsPermutation-sym states B.accepting b.accepting_given) h,
    λ h. Contains-permutation states B.accepting q b.accepting_given h,
  );
}
