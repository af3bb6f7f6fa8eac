use Rattle.std.proofs.Common.{◌≡◌, take}
use Rattle.std.specs.List.{flat_map}
use Rattle.log_check.specs.RankedLists.{row_list}
use Rattle.log_check.proofs.rankings.listed_triples.Given as goal

abbrev pub invariant-loop-row : goal.invariant-loop-row
invariant-loop-row l = l.triples.items ≡ flat_map row_list (take l.row-index l.block.rows)
