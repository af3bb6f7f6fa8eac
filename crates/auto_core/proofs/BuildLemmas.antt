-- What was given in range and has no repeat, put in order, is a valid automaton.
use Rattle.std.proofs.Common.{ℕ, ◌<◌, ◌^◌, List, length, arith}
use Rattle.std.specs.List.Sorted.{IsPermutation, IsStrictlyIncreasing}
use Rattle.std.proofs.lemmas.List.Sorted.{All-permutation, length_permutation}
use Rattle.auto_core.specs.Automaton.{IsAutomaton, IsAscending, IsInRange}
use Rattle.auto_core.specs.Build.{HasStates, HasLabels}
use Rattle.auto_core.specs.declared.parts.Trans.{Trans}

pub valid_from :
    (states labels initial : ℕ) (given sorted : List Trans) (accepting states_sorted : List ℕ)
    → states < 2 ^ 32
    → labels < 2 ^ 32
    → length given < 2 ^ 32
    → HasStates states initial given accepting
    → HasLabels labels given
    → IsPermutation given sorted
    → IsAscending sorted
    → IsPermutation accepting states_sorted
    → IsStrictlyIncreasing states_sorted
    → IsAutomaton
    record { states = states; labels = labels; initial = initial; transitions = sorted; accepting = states_sorted }
valid_from states labels initial given sorted accepting states_sorted s l few in_states in_labels p up q up' =
    record {
      states_fit = s;
      labels_fit = l;
      initial_is_state = in_states.0;
      in_range =
          All-permutation (IsInRange states labels) given sorted p (λ k d k_in.
          ((in_states.1 k d k_in).0, (in_states.1 k d k_in).1, in_labels k d k_in));
      in_order = up;
      few = omega (arith, length_permutation given sorted p);
      accepting_in_range = All-permutation (λ x. x < states) accepting states_sorted q in_states.2;
      accepting_in_order = up';
    }
