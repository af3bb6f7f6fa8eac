use Rattle.cross_sim.proofs.LeavingLemmas.{rows_whole, rows_less}
use Rattle.cross_sim.proofs.simulation.leave_across.Goals as goal

pub loop-p-init : goal.loop-p-init
loop-p-init c = rows_whole c.args.firsts c.args.rel.now

pub loop-p-preserved : goal.loop-p-preserved
loop-p-preserved c = rows_less c.loop-p.p c.args.firsts c.args.rel.now c.loop-p.rel c.leave_row_across.new.rel c.loop-p.invariant c.leave_row_across.ensures
