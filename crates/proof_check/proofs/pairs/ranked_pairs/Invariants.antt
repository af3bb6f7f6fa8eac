use Rattle.std.proofs.Common.{◌≡◌, take}
use Rattle.std.specs.List.{flat_map}
use Rattle.proof_check.specs.Pairs.{ranked_in_row}
use Rattle.proof_check.proofs.pairs.ranked_pairs.Given as goal

abbrev pub invariant-loop-row : goal.invariant-loop-row
invariant-loop-row l = l.pairs.items ≡ flat_map ranked_in_row (take l.row-index l.block.rows)
