use Rattle.std.proofs.Common.{subst}
use Rattle.decide.proofs.WrittenLemmas.{rows_are_block}
use Rattle.log_check.specs.Rows.{HoldsFrom, AreRows}
use Rattle.decide.proofs.rows.block_of.Goals as goal

pub returns : goal.returns
returns c =
    let R = c.args.rel.now in
    let rows = c.in_ok-rows.rows in
    rows_are_block R.pairs R.size rows c.requires c.size-size.ensures.valid.in_range c.size-size.ensures.valid.in_order
    (subst (λ n. AreRows (HoldsFrom R.pairs 0 n) n rows) c.size-size.ensures.count c.in_ok-rows.ensures)
