-- Pairs with ranks as they are listed.
use Rattle.std.specs.Prelude.{ℕ, ◌<◌, Option, None, List, map, length, slice_index_or}
use Rattle.bit_rel.specs.Relation.{IsPairBefore}
use Rattle.delayed_game.specs.Across.{RankedPlacePairs}
use Rattle.delayed_laws.specs.declared.parts.DelayedPair.{DelayedPair}

-- The pair with this rank or without one.
abbrev pub delayed_pair : ℕ → ℕ → Option ℕ → DelayedPair
delayed_pair p q o = record { left = p; right = q; rank = o }

-- The pair and the rank that the fields stand for.
abbrev pub place_pair : DelayedPair → ℕ × ℕ × Option ℕ
place_pair x = (x.left, x.right, x.rank)

-- Those of all pairs of the list.
abbrev pub place_pairs : List DelayedPair → RankedPlacePairs
place_pairs pairs = map place_pair pairs

-- The pair with this number; there is none past the end, and then it is the pair of zeros.
abbrev pub delayed_at : List DelayedPair → ℕ → DelayedPair
delayed_at pairs i = slice_index_or pairs i (delayed_pair 0 0 None)

-- The pair stands before the one of p and q: by the left state, then by the right one.
abbrev pub StandsBefore : DelayedPair → ℕ → ℕ → Type 0
StandsBefore x p q = IsPairBefore (x.left, x.right) (p, q)

-- Each pair stands before all later ones. So none is there twice.
abbrev pub AreDelayedAscending : List DelayedPair → Type 0
AreDelayedAscending pairs =
    (i j : ℕ) → i < j → j < length pairs
    → StandsBefore (delayed_at pairs i) (delayed_at pairs j).left (delayed_at pairs j).right
