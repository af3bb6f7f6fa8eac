-- Laws of the drawn automata.
use Rattle.std.specs.Prelude.{◌≡◌, ℕ, ◌≤◌, length}
use Rattle.auto_core.specs.Automaton.{Automaton, IsAutomaton}
use Rattle.ba_format.specs.declared.parts.Joined.{Joined}
use Rattle.drawing.specs.declared.parts.Drill.{Drill}
use Rattle.drawing.specs.Drawn.{IsInBounds, AreDrawn}

-- A drill draws one pair.
abbrev pub DrawnAreOne : Type 0
DrawnAreOne = (d : Drill) (p q : Joined) → AreDrawn d p → AreDrawn d q → p ≡ q

-- A valid automaton with at most 512 states and 576 transitions, over so many labels.
pub record IsSmall (labels : ℕ) (A : Automaton) : Type 0 where
  pub valid : IsAutomaton A
  pub over : A.labels ≡ labels
  pub states : A.states ≤ 512
  pub transitions : length A.transitions ≤ 576

-- Both automata of a drill in bounds are small, over at most 26 labels, which have as many texts.
abbrev pub DrawnAreSmall : Type 0
DrawnAreSmall = (d : Drill) (p : Joined) → IsInBounds d → AreDrawn d p →
    IsSmall (length p.labels) p.first × IsSmall (length p.labels) p.second × (length p.labels ≤ 26)
