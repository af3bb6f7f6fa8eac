-- Leaving out letters, one after the other, as long as what is left has a property. It is told of
-- things of any kind that have places for letters.
use Rattle.std.specs.Prelude.{◌≡◌, ℕ, zero, suc, ◌<◌}

-- Without some letter x still has the property: y is what is left without the first such letter.
pub record LeavesOutFirst {X : Type 0} (P : X → Type 0) (size : X → ℕ) (without : X → ℕ → X)
    (x y : X) : Type 0 where
  pub place : ℕ
  pub within : place < size x
  pub is : y ≡ without x place
  pub keeps : P y
  pub first : (k : ℕ) → k < place → P (without x k) → ⊥

-- n letters are left out so, one after the other.
abbrev pub LeavesOut : {X : Type 0} → (X → Type 0) → (X → ℕ) → (X → ℕ → X) → ℕ → X → X → Type 0
LeavesOut P size without zero x y = x ≡ y
LeavesOut {X} P size without (suc n) x y =
    (z : X) × LeavesOut P size without n x z × LeavesOutFirst P size without z y

-- Without any single letter x has the property no more.
abbrev pub NeedsEach : {X : Type 0} → (X → Type 0) → (X → ℕ) → (X → ℕ → X) → X → Type 0
NeedsEach P size without x = (k : ℕ) → k < size x → P (without x k) → ⊥

-- y is what is left of x once no letter can go.
pub record IsShrunk {X : Type 0} (P : X → Type 0) (size : X → ℕ) (without : X → ℕ → X)
    (x y : X) : Type 0 where
  pub letters : ℕ
  pub left_out : LeavesOut P size without letters x y
  pub each_needed : NeedsEach P size without y
