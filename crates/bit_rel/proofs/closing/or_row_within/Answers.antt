use Rattle.std.proofs.Common.{arith}
use Rattle.auto_core.proofs.CellLemmas.{row_left}
use Rattle.bit_rel.proofs.ClosingLemmas.{merge_word, row_merged}
use Rattle.bit_rel.proofs.closing.or_row_within.Goals as goal

pub loop-j-preserved : goal.loop-j-preserved
loop-j-preserved c =
    let len = c.loop-j.auto.table in
    let fits = c.requires.into_row in
    merge_word c.args.table.now c.loop-j.table c.args.width c.args.into c.args.from c.loop-j.j c.loop-j-test.true (omega arith) c.loop-j.invariant

pub returns-clause-here : goal.returns-clause-here
returns-clause-here c =
    row_merged c.args.table.now c.loop-j.table c.args.width c.args.into c.args.from (λ k k_in. c.loop-j.invariant.0 k (omega arith))

pub returns-clause-others : goal.returns-clause-others
returns-clause-others c =
    row_left c.args.table.now c.loop-j.table c.args.width c.args.into
    (λ k k_from. c.loop-j.invariant.1 k (omega arith)) c.loop-j.invariant.2
