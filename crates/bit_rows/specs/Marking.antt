-- How far the marks of loops are.
use Rattle.std.specs.Prelude.{◌<◌, ◌⊎◌, ◌↔◌, ℕ, List}
use Rattle.auto_core.specs.Game.{Close}
use Rattle.auto_core.specs.Rows.{HasBit}
use Rattle.auto_core.specs.Reach.{ReturnsTo}
use Rattle.bit_rows.specs.Loops.{LeadsToLoop}

-- A flagged arc leads from a marked place to a marked place.
abbrev pub HasArcWithin : (ℕ → ℕ → Type 0) → List ℕ → Type 0
HasArcWithin flagged marks = (p q : ℕ) × HasBit marks p × flagged p q × HasBit marks q

-- The row marks the component of the place: what it reaches and what reaches it.
abbrev pub IsComponent : (ℕ → ℕ → Type 0) → ℕ → List ℕ → Type 0
IsComponent any at marks = (q : ℕ) → HasBit marks q ↔ (Close any at q × Close any q at)

-- The places below `at` are done: they are marked as looping, with all that reaches them, or no
-- flagged arc leads out of them and back.
pub record AreDone (any flagged : ℕ → ℕ → Type 0) (count : ℕ) (looping done_places : List ℕ)
    (at : ℕ) : Type 0 where
  pub sound : (q : ℕ) → HasBit looping q → (q < count) × LeadsToLoop any flagged q
  pub closed : (p q : ℕ) → Close any p q → HasBit looping q → HasBit looping p
  pub plain : (q : ℕ) → HasBit done_places q → ReturnsTo any flagged q → ⊥
  pub all : (q : ℕ) → q < at → HasBit looping q ⊎ HasBit done_places q
