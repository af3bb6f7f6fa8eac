-- The pairs with ranks.
use Rattle.std.specs.Prelude.{ℕ, List}
use Rattle.product_laws.specs.declared.RankedPair.{RankedPair}
use Rattle.strong_components.specs.Graph.{at}
use Rattle.product_search.specs.Found.{pair_at}

-- The pair with this number, with its rank.
abbrev pub with_rank : List (ℕ × ℕ) → List ℕ → ℕ → RankedPair
with_rank pairs ranks i =
    record { left = (pair_at pairs i).0; right = (pair_at pairs i).1; rank = at ranks i }
