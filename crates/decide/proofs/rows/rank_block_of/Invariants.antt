use Rattle.std.proofs.Common.{◌-◌, length}
use Rattle.decide.specs.Rows.{AreRankRows}
use Rattle.decide.proofs.rows.rank_block_of.Given as goal

abbrev pub invariant-loop-at : goal.invariant-loop-at
invariant-loop-at l = AreRankRows l.ranks l.at l.rows

abbrev pub decreases-loop-at : goal.decreases-loop-at
decreases-loop-at l = length l.ranks.triples - l.at
