use Rattle.std.proofs.Common.{◌≡◌, suc, ◌+◌, arith, subst, rules}
use Rattle.bit_rel.proofs.ClosingLemmas.{IsClosing, begin_closing, pass_closing, closed_table}
use Rattle.bit_rel.proofs.closing.close_table.Goals as goal

pub loop-via-init : goal.loop-via-init
loop-via-init c =
    begin_closing c.args.table.now c.relate_selves.new.table c.args.count c.args.width c.requires.table (search rules) c.relate_selves.ensures

pub loop-via-preserved : goal.loop-via-preserved
loop-via-preserved c =
    let e : suc c.loop-via.via ≡ c.loop-via.via + 1 = omega arith in
    subst (IsClosing c.args.table.now c.pass_through.new.table c.args.count c.args.width) e
    (pass_closing c.args.table.now c.loop-via.table c.pass_through.new.table c.args.count c.args.width c.loop-via.via
    c.loop-via.invariant c.loop-via-test.true (search rules) c.pass_through.ensures)

pub returns-clause-closed : goal.returns-clause-closed
returns-clause-closed c =
    closed_table c.args.table.now c.loop-via.table c.args.count c.args.width c.loop-via.via c.loop-via.invariant c.loop-via-test.false
