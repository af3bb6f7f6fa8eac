use Rattle.cross_sim.specs.Sides.{LeavesRowAcross}
use Rattle.cross_sim.proofs.simulation.leave_row_across.Given as goal

abbrev pub invariant-loop-q : goal.invariant-loop-q
invariant-loop-q l = LeavesRowAcross l.p l.q l.fn.rel l.rel
