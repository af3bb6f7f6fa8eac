-- Rows of bits in words of 64, and tables of such rows.
use Rattle.std.specs.Prelude.{◌≡◌, ℕ, ◌+◌, ◌*◌, ◌/◌, ◌%◌, Bool, true, List, slice_index, EachIndex, bit_or, ◌==◌}
use Rattle.std.specs.Int.{bit_at}

-- Bit i of the row, the lowest of the first word being bit 0; past the end there are no ones.
abbrev pub bit_of : List ℕ → ℕ → Bool
bit_of row i = bit_at (slice_index row (i / 64)) (i % 64) == 1

-- The row has bit i.
abbrev pub HasBit : List ℕ → ℕ → Type 0
HasBit row i = bit_of row i ≡ true

-- In a table whose rows have `width` words, the bit of row p and column q.
abbrev pub cell_of : List ℕ → ℕ → ℕ → ℕ → Bool
cell_of table width p q = bit_of table (p * width * 64 + q)

-- The table relates p to q.
abbrev pub HasCell : List ℕ → ℕ → ℕ → ℕ → Type 0
HasCell table width p q = cell_of table width p q ≡ true

-- Each word of c is the 'or' of the words of a and b at its place.
abbrev pub AreWordsOred : List ℕ → List ℕ → List ℕ → Type 0
AreWordsOred a b c = EachIndex c (λ k. slice_index c k ≡ bit_or (slice_index a k) (slice_index b k))
