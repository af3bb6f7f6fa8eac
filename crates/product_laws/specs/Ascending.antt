-- Pairs with ranks in order.
use Rattle.std.specs.Prelude.{◌≡◌, ℕ, ◌<◌, ◌⊎◌, List, length, slice_index_or}
use Rattle.product_laws.specs.declared.RankedPair.{RankedPair}

-- The pair with this number; there is none past the end, and then it is the pair of zeros.
abbrev pub pair_at : List RankedPair → ℕ → RankedPair
pair_at pairs i = slice_index_or pairs i (record { left = 0; right = 0; rank = 0 })

-- The pair stands before the one of p and q: by the left state, then by the right one.
abbrev pub IsBefore : RankedPair → ℕ → ℕ → Type 0
IsBefore x p q = (x.left < p) ⊎ ((x.left ≡ p) × (x.right < q))

-- Each pair stands before all later ones. So none is there twice.
abbrev pub AreAscending : List RankedPair → Type 0
AreAscending pairs =
    (i j : ℕ) → i < j → j < length pairs
    → IsBefore (pair_at pairs i) (pair_at pairs j).left (pair_at pairs j).right
