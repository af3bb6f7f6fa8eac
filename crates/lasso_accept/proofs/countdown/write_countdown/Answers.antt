use Rattle.std.proofs.Common.{◌≡◌, ◌*◌, length, arith, rules}
use Rattle.std.proofs.lemmas.Nat.{row_fits}
use Rattle.auto_core.specs.Reach.{HasArc}
use Rattle.lasso_accept.proofs.CountdownLemmas.{counted_none, counted_more, counted_all}
use Rattle.lasso_accept.proofs.countdown.write_countdown.Goals as goal

pub set_cell-requires-clause-row : goal.set_cell-requires-clause-row
set_cell-requires-clause-row c =
    let target_in = c.requires.target_in in
    omega (arith, row_fits 0 c.args.width c.args.count c.args.width (omega arith) (omega arith), c.requires.len)

pub loop-at-init : goal.loop-at-init
loop-at-init c =
    let any = c.requires.any in
    counted_none (HasArc c.args.any.now c.args.count c.args.width) c.args.count c.args.width c.args.target c.args.table.now c.set_cell.new.table any.room c.requires.target_in
    c.requires.clear c.set_cell.ensures.here c.set_cell.ensures.others

pub loop-at-preserved : goal.loop-at-preserved
loop-at-preserved c =
    let any = c.requires.any in
    counted_more (HasArc c.args.any.now c.args.count c.args.width) c.args.count c.args.width c.args.target c.loop-at.at c.loop-at.table c.write_next.new.table any.room
    (λ p q arc. arc.1) c.loop-at.invariant c.write_next.ensures.here c.write_next.ensures.others

pub returns : goal.returns
returns c =
    let len : length c.loop-at.table ≡ c.args.count * c.args.width = search rules in
    counted_all (HasArc c.args.any.now c.args.count c.args.width) c.args.count c.args.width c.args.target c.loop-at.at c.loop-at.table len (omega arith) c.loop-at.invariant
