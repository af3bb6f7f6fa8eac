-- How large the result of an operation may be.
use Rattle.std.specs.Prelude.{ℕ, ◌<◌, ◌≤◌, List, length, All}
use Rattle.auto_core.specs.Automaton.{Automaton, HasRepeat}
use Rattle.auto_ops.specs.declared.limits.TheConstants.{MOST_STATES, MOST_TRANSITIONS, MOST_LABELS}

-- The automaton is no larger than a result may be: it has at most so many states, transitions and
-- labels.
pub record IsSmallResult (A : Automaton) : Type 0 where
  pub states : A.states ≤ MOST_STATES
  pub transitions : length A.transitions ≤ MOST_TRANSITIONS
  pub labels : A.labels ≤ MOST_LABELS

-- More than n different things are P.
pub record AreMoreThan {X : Type 0} (n : ℕ) (P : X → Type 0) : Type 0 where
  pub things : List X
  pub different : HasRepeat things → ⊥
  pub each : All P things
  pub many : n < length things
