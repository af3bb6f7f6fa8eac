-- Blocks of 64 rows with one word each, and the steps by which they are transposed.
use Rattle.std.specs.Prelude.{◌≡◌, ℕ, ◌+◌, ◌-◌, ◌/◌, ◌%◌, ◌<◌, ◌⊎◌, List, slice_index}
use Rattle.std.specs.Int.{bit_at}

-- The bit of row a and column b.
abbrev pub bit_in : List ℕ → ℕ → ℕ → ℕ
bit_in block a b = bit_at (slice_index block a) b

-- The sizes of the squares that a step exchanges.
abbrev pub IsSquareSize : ℕ → Type 0
IsSquareSize h = (h ≡ 32) ⊎ (h ≡ 16) ⊎ (h ≡ 8) ⊎ (h ≡ 4) ⊎ (h ≡ 2) ⊎ (h ≡ 1)

-- The mask has the columns of the first of each two neighbouring squares.
abbrev pub IsMask : ℕ → ℕ → Type 0
IsMask h mask = (b : ℕ) → b < 64 → bit_at mask b ≡ 1 - b / h % 2

-- Of each four squares that make up a larger one, the two off its diagonal are exchanged: what row
-- a has then.
pub record IsExchanged (old new : List ℕ) (h a : ℕ) : Type 0 where
  pub same : (b : ℕ) → b < 64 → b / h % 2 ≡ a / h % 2 → bit_in new a b ≡ bit_in old a b
  pub above : a / h % 2 ≡ 0 → (b : ℕ) → b < 64 → b / h % 2 ≡ 1
      → bit_in new a b ≡ bit_in old (a + h) (b - h)
  pub below : a / h % 2 ≡ 1 → (b : ℕ) → b < 64 → b / h % 2 ≡ 0
      → bit_in new a b ≡ bit_in old (a - h) (b + h)

-- Rows and columns are exchanged.
abbrev pub IsTransposed : List ℕ → List ℕ → Type 0
IsTransposed old new = (a b : ℕ) → a < 64 → b < 64 → bit_in new a b ≡ bit_in old b a
