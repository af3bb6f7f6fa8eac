use Rattle.std.proofs.Common.{◌≡◌, true, rules}
use Rattle.log_check.proofs.BlockLemmas.{all_more, all_told}
use Rattle.cross_sim.specs.Rules.{IsRowInRange}
use Rattle.cross_sim.proofs.check.are_rows_across.Goals as goal

pub loop-row-preserved : goal.loop-row-preserved
loop-row-preserved c =
    let is : c.is_row_across.result ≡ true = search rules in
    all_more (IsRowInRange c.args.firsts c.args.seconds) c.args.rows.now c.loop-row.row-index c.row-item.result c.row-item.result c.loop-row-test.true
    c.row-item.is c.loop-row.invariant (c.is_row_across.ensures.0 is)

pub returns : goal.returns
returns c = all_told (IsRowInRange c.args.firsts c.args.seconds) c.args.rows.now c.loop-row.row-index c.loop-row-test.false c.loop-row.invariant
