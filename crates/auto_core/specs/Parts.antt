-- Parts of an automaton that have no fault.
use Rattle.std.specs.Prelude.{ℕ, ◌^◌, ◌<◌, List, length}
use Rattle.auto_core.specs.declared.parts.Trans.{Trans}
use Rattle.auto_core.specs.Automaton.{HasRepeat}
use Rattle.auto_core.specs.Build.{HasStates, HasLabels}

-- The parts make an automaton: every number is in range, and none of them is given twice.
pub record AreParts (states labels initial : ℕ) (transitions : List Trans)
    (accepting : List ℕ) : Type 0 where
  pub few : length transitions < 2 ^ 32
  pub in_states : HasStates states initial transitions accepting
  pub in_labels : HasLabels labels transitions
  pub no_transition_twice : HasRepeat transitions → ⊥
  pub no_state_twice : HasRepeat accepting → ⊥
