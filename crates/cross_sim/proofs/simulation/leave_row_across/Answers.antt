use Rattle.cross_sim.proofs.LeavingLemmas.{row_whole, row_less}
use Rattle.cross_sim.proofs.simulation.leave_row_across.Goals as goal

pub loop-q-init : goal.loop-q-init
loop-q-init c = row_whole c.args.p c.args.rel.now

pub loop-q-preserved : goal.loop-q-preserved
loop-q-preserved c = row_less c.args.p c.loop-q.q c.args.rel.now c.loop-q.rel c.clear.new.self c.loop-q.invariant c.clear.ensures.pairs
