use Rattle.bit_rel.proofs.ClosingLemmas.{passed_adds}
use Rattle.bit_rel.proofs.closing.pass_row.Goals as goal

pub returns-then-has_passed-clause-here : goal.returns-then-has_passed-clause-here
returns-then-has_passed-clause-here c =
    let at = c.has_passed.ensures c.if-has_passed.true in
    passed_adds c.args.table.now c.args.width c.args.p c.args.via (c.requires.passed at.0 at.1)
