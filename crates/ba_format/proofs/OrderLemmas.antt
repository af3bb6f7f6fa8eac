-- Parts that are in range and have no repeat are those of some automaton.
use Rattle.std.proofs.Common.{ℕ, ◌+◌, ◌^◌, ◌<◌, List, refl, arith}
use Rattle.auto_core.specs.declared.parts.Trans.{Trans}
use Rattle.auto_core.specs.Automaton.{Automaton, IsBefore, trans}
use Rattle.auto_core.specs.Build.{IsBuilt}
use Rattle.auto_core.specs.Parts.{AreParts}
use Rattle.auto_core.proofs.BuildLemmas.{valid_from}
use Rattle.auto_core.proofs.Order.{IsBefore-trans}
use Rattle.ba_format.proofs.FaultlessLemmas.{put_in_order, either_less, either_before, different_from}

-- The automaton of these parts.
pub built_from : (states labels initial : ℕ) (transitions : List Trans) (accepting : List ℕ) → states < 2 ^ 32 → labels < 2 ^ 32 → AreParts states labels initial transitions accepting
    → (A : Automaton) × IsBuilt states labels initial transitions accepting A
built_from states labels initial transitions accepting states_fit labels_fit parts =
    let steps = put_in_order IsBefore IsBefore-trans either_before transitions (different_from transitions parts.no_transition_twice) in
    let ends = put_in_order (λ p q. p < q) (λ p q r h g. omega arith) either_less accepting (different_from accepting parts.no_state_twice) in
    let A : Automaton = record { states = states; labels = labels; initial = initial; transitions = steps.0; accepting = ends.0 } in (
      A,
      record {
        valid =
            valid_from states labels initial transitions steps.0 accepting ends.0 states_fit labels_fit parts.few parts.in_states parts.in_labels
            steps.1 (λ i j lt short. steps.2 i j (trans 0 0 0) lt short)
            ends.1 (λ k lt. ends.2 k (k + 1) 0 (omega arith) lt);
        states_given = refl;
        labels_given = refl;
        initial_given = refl;
        transitions_given = steps.1;
        accepting_given = ends.1;
      },
    )
