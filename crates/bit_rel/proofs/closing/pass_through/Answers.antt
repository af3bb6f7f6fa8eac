use Rattle.std.proofs.Common.{arith}
use Rattle.bit_rel.proofs.ClosingLemmas.{passed_above, passed_more}
use Rattle.bit_rel.proofs.closing.pass_through.Goals as goal

pub pass_row-requires-clause-passed : goal.pass_row-requires-clause-passed
pass_row-requires-clause-passed c =
    passed_above c.args.table.now c.loop-p.table c.args.count c.args.width c.loop-p.p c.first_above-above.result c.args.via c.requires.table c.loop-p-test.true
    c.requires.place c.requires.itself c.requires.through c.first_above-above.ensures.above c.loop-p.invariant

pub loop-p-preserved : goal.loop-p-preserved
loop-p-preserved c =
    let room = c.requires.table.room in
    let place = c.requires.place in
    passed_more c.args.table.now c.loop-p.table c.pass_row.new.table c.args.width c.args.via c.loop-p.p c.requires.itself (omega arith) c.loop-p.invariant
    c.pass_row.ensures.here c.pass_row.ensures.others
