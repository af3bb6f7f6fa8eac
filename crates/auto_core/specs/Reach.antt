-- What is reached along the arcs of a table of bits.
use Rattle.std.specs.Prelude.{◌≡◌, ℕ, ◌*◌, ◌<◌, ◌≤◌, List, length}
use Rattle.auto_core.specs.Rows.{HasBit, HasCell}
use Rattle.auto_core.specs.Game.{Close}

-- The table has n rows of `width` words, which have room for n columns, and each bit is in one of
-- the n columns.
pub record IsTable (table : List ℕ) (n width : ℕ) : Type 0 where
  pub len : length table ≡ n * width
  pub room : n ≤ width * 64
  pub columns : (p q : ℕ) → p < n → q < width * 64 → HasCell table width p q → q < n

-- An arc of the table between two of its n places.
abbrev pub HasArc : List ℕ → ℕ → ℕ → ℕ → ℕ → Type 0
HasArc table n width p q = (p < n) × (q < n) × HasCell table width p q

-- The row marks only places below n.
abbrev pub MarksBelow : List ℕ → ℕ → Type 0
MarksBelow marks n = (q : ℕ) → HasBit marks q → q < n

-- The new marks are on just what the old ones reach along R, in any number of steps.
pub record AreReached (R : ℕ → ℕ → Type 0) (old new : List ℕ) : Type 0 where
  pub each : (q : ℕ) → HasBit new q → (p : ℕ) × HasBit old p × Close R p q
  pub all : (p q : ℕ) → HasBit old p → Close R p q → HasBit new q

-- A flagged arc leads from the place to one from which it is reached again, by any number of arcs.
abbrev pub ReturnsTo : (ℕ → ℕ → Type 0) → (ℕ → ℕ → Type 0) → ℕ → Type 0
ReturnsTo any flagged at = (next : ℕ) × flagged at next × Close any next at

-- From one of the marks a place x is reached from which a flagged arc leads back to x, by any
-- number of arcs.
pub record HasFlaggedCycle (any flagged : ℕ → ℕ → Type 0) (marks : List ℕ) : Type 0 where
  pub start : ℕ
  pub at : ℕ
  pub next : ℕ
  pub marked : HasBit marks start
  pub enters : Close any start at
  pub leaves : flagged at next
  pub returns : Close any next at
