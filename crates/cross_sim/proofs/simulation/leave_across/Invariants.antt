use Rattle.cross_sim.specs.Sides.{LeavesAcross}
use Rattle.cross_sim.proofs.simulation.leave_across.Given as goal

abbrev pub invariant-loop-p : goal.invariant-loop-p
invariant-loop-p l = LeavesAcross l.p l.firsts l.fn.rel l.rel
