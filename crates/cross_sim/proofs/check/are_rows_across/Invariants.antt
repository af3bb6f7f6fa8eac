use Rattle.std.proofs.Common.{All, take}
use Rattle.cross_sim.specs.Rules.{IsRowInRange}
use Rattle.cross_sim.proofs.check.are_rows_across.Given as goal

abbrev pub invariant-loop-row : goal.invariant-loop-row
invariant-loop-row l = All (IsRowInRange l.firsts l.seconds) (take l.row-index l.rows)
