-- How a run over a lasso is found: where its last turns begin, and how many turns lead there.
use Rattle.std.specs.Prelude.{◌≡◌, ◌↔◌, ℕ, ◌*◌, ◌<◌, Bool, true, List, ◌++◌, length}
use Rattle.auto_core.specs.Automaton.{Automaton}
use Rattle.auto_core.specs.Run.{Run, Path, end_of, some_accepting, repeated}
use Rattle.auto_core.specs.Rows.{HasBit, HasCell}
use Rattle.auto_core.specs.Reach.{HasArc}
use Rattle.lasso_accept.specs.Countdown.{IsCountdown}

-- The row with number k has the states from which a run on k times the loop leads to the target;
-- there are as many rows as states.
pub record CountsTurns (A : Automaton) (v : List ℕ) (width target : ℕ)
    (table : List ℕ) : Type 0 where
  pub len : length table ≡ A.states * width
  pub runs : (k p : ℕ) → k < A.states → p < A.states
      → HasCell table width k p ↔ ((flag : Bool) × Run A p (repeated v k) target flag)

-- By the arcs of the loop: a mark leads to `at` by `before` arcs; from there a flagged arc leads to
-- a place from which `back` arcs lead back to it.
pub record IsArcRoute (any flagged : List ℕ) (n width : ℕ) (entered : List ℕ) (at before back : ℕ)
    (table : List ℕ) : Type 0 where
  pub at_in : at < n
  pub before_in : before < n
  pub back_in : back < n
  pub counts : IsCountdown (HasArc any n width) n width at table
  pub enters : (p : ℕ) × (p < n) × HasBit entered p × HasCell table width before p
  pub returns : (p : ℕ) × (p < n) × HasCell flagged width at p × HasCell table width back p

-- The prefix leads to a state from which `before` turns lead to the state `at`; from there a turn
-- past an accepting state leads to one from which `back` turns lead back to it.
pub record IsRoute (A : Automaton) (u v : List ℕ) (width at before back : ℕ)
    (table : List ℕ) : Type 0 where
  pub at_in : at < A.states
  pub before_in : before < A.states
  pub back_in : back < A.states
  pub counts : CountsTurns A v width at table
  pub enters : (s : ℕ) × (flag : Bool) × Run A A.initial u s flag × HasCell table width before s
  pub returns : (s : ℕ) × Run A at v s true × HasCell table width back s

-- The states of a path on so many turns of the loop from p to the target have been appended.
pub record HasTurned (A : Automaton) (p : ℕ) (v : List ℕ) (turns target : ℕ)
    (old new : List ℕ) : Type 0 where
  pub states : List ℕ
  pub is : new ≡ old ++ states
  pub path : Path A p (repeated v turns) states
  pub ends : end_of p states ≡ target

-- The states of a path on the word and then on so many turns of the loop from p to the target have
-- been appended; an accepting state is passed where that was asked for.
pub record HasGone (A : Automaton) (p : ℕ) (w v : List ℕ) (turns target : ℕ) (asked : Bool)
    (old new : List ℕ) : Type 0 where
  pub states : List ℕ
  pub is : new ≡ old ++ states
  pub path : Path A p (w ++ repeated v turns) states
  pub ends : end_of p states ≡ target
  pub passes : asked ≡ true → some_accepting A states ≡ true
