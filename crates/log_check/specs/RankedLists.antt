-- The triples of a block with ranks as the list that the relation is made from.
use Rattle.std.specs.Prelude.{List, map}
use Rattle.std.specs.List.{flat_map}
use Rattle.delayed_sim.specs.declared.delayed.RankedTriple.{RankedTriple}
use Rattle.auto_core.specs.Delayed.{rank_in_code}
use Rattle.delayed_sim.specs.Rankings.{ranked_triple}
use Rattle.cert_value.specs.declared.types.RankBlock.{RankBlock}
use Rattle.cert_value.specs.declared.types.RankRow.{RankRow}
use Rattle.cert_value.specs.declared.types.Ranked.{Ranked}

-- The triples of a row.
abbrev pub row_list : RankRow → List RankedTriple
row_list row =
    map (λ (r : Ranked). ranked_triple row.left row.ahead r.right (rank_in_code r.code)) row.rights

-- The triples of the block.
abbrev pub block_list : RankBlock → List RankedTriple
block_list block = flat_map row_list block.rows
