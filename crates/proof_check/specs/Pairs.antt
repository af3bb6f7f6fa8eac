-- The pairs of a block, as products and delayed simulations have them.
use Rattle.std.specs.Prelude.{List, map}
use Rattle.std.specs.List.{flat_map}
use Rattle.auto_core.specs.Delayed.{rank_in_code}
use Rattle.cert_value.specs.declared.types.RankBlock.{RankBlock}
use Rattle.cert_value.specs.declared.types.RankRow.{RankRow}
use Rattle.cert_value.specs.declared.types.Ranked.{Ranked}
use Rattle.product_laws.specs.declared.RankedPair.{RankedPair}
use Rattle.delayed_laws.specs.declared.parts.DelayedPair.{DelayedPair}

-- The pairs of a row with their ranks: the code of a right number is the rank.
abbrev pub ranked_in_row : RankRow → List RankedPair
ranked_in_row row =
    map (λ (r : Ranked). record { left = row.left; right = r.right; rank = r.code }) row.rights

-- The pairs of the block with their ranks.
abbrev pub ranked_pairs : RankBlock → List RankedPair
ranked_pairs block = flat_map ranked_in_row block.rows

-- The pairs of a row with the ranks that their codes stand for.
abbrev pub delayed_in_row : RankRow → List DelayedPair
delayed_in_row row =
    map (λ (r : Ranked). record { left = row.left; right = r.right; rank = rank_in_code r.code })
    row.rights

-- The pairs of the block with the ranks that their codes stand for.
abbrev pub delayed_pairs : RankBlock → List DelayedPair
delayed_pairs block = flat_map delayed_in_row block.rows
