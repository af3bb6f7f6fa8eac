use Rattle.bit_rel.proofs.ClosingLemmas.{one_self}
use Rattle.bit_rel.proofs.closing.relate_selves.Goals as goal

pub loop-p-preserved : goal.loop-p-preserved
loop-p-preserved c =
    one_self c.args.table.now c.loop-p.table c.set_cell.new.table c.args.width c.loop-p.p c.loop-p.invariant c.set_cell.ensures.here c.set_cell.ensures.others
