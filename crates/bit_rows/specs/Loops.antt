-- Loops past a flagged arc, and what leads to them.
use Rattle.std.specs.Prelude.{◌↔◌, ℕ, List}
use Rattle.auto_core.specs.Game.{Close}
use Rattle.auto_core.specs.Reach.{IsTable, HasArc, ReturnsTo}

-- From the place q arcs lead to one that a flagged arc leads out of and back to, by any number of
-- arcs.
abbrev pub LeadsToLoop : (ℕ → ℕ → Type 0) → (ℕ → ℕ → Type 0) → ℕ → Type 0
LeadsToLoop any flagged q = (x : ℕ) × Close any q x × ReturnsTo any flagged x

-- Each flagged arc is an arc.
abbrev pub AreArcs : (ℕ → ℕ → Type 0) → (ℕ → ℕ → Type 0) → Type 0
AreArcs flagged any = (p q : ℕ) → flagged p q → any p q

-- The second table has just the arcs of the first, turned round.
pub record IsTurned (table turned : List ℕ) (n width : ℕ) : Type 0 where
  pub fits : IsTable turned n width
  pub each : (p q : ℕ) → HasArc turned n width p q ↔ HasArc table n width q p
