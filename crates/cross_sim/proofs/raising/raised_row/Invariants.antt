use Rattle.std.proofs.Common.{◌≡◌, take, map}
use Rattle.cross_sim.specs.Rules.{raised_run}
use Rattle.cross_sim.proofs.raising.raised_row.Given as goal

abbrev pub invariant-loop-run : goal.invariant-loop-run
invariant-loop-run l = l.runs ≡ map (raised_run l.by) (take l.run-index l.row.runs)
