use Rattle.std.proofs.Common.{All, take}
use Rattle.log_check.specs.Blocks.{IsRankRowBelow}
use Rattle.log_check.proofs.rankings.is_rank_block_below.Given as goal

abbrev pub invariant-loop-row : goal.invariant-loop-row
invariant-loop-row l = All (IsRankRowBelow l.automaton.states l.automaton.labels) (take l.row-index l.block.rows)
