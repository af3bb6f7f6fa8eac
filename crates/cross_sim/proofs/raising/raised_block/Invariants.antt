use Rattle.std.proofs.Common.{◌≡◌, take, map}
use Rattle.cross_sim.specs.Rules.{raised_row}
use Rattle.cross_sim.proofs.raising.raised_block.Given as goal

abbrev pub invariant-loop-row : goal.invariant-loop-row
invariant-loop-row l = l.raised ≡ map (raised_row l.by) (take l.row-index l.rows)
