use Rattle.std.proofs.Common.{le_refl, arith}
use Rattle.std.proofs.lemmas.Nat.{row_fits}
use Rattle.look_round.proofs.PlaceLemmas.{marked_none, marked_more, marked_all}
use Rattle.look_round.proofs.words.mark_down.Goals as goal

pub loop-r-init : goal.loop-r-init
loop-r-init c = (marked_none c.args.table.now c.args.row.now c.args.width c.args.count c.args.at, omega arith)

pub set_cell-requires-clause-row : goal.set_cell-requires-clause-row
set_cell-requires-clause-row c =
    let fits = row_fits c.in-Some.r c.args.width c.args.count c.args.width c.if-r-count.false (le_refl c.args.width) in
    omega (arith, c.requires.table, c.loop-r.auto.table)

pub loop-r-preserved : goal.loop-r-preserved
loop-r-preserved c =
    let below = c.if-r-count.false in (
      marked_more c.args.table.now c.loop-r.table c.set_cell.new.table c.args.row.now c.args.width c.args.count c.args.at c.loop-r.next c.in-Some.r c.loop-r.invariant.0 c.in-Some.ensures.found c.requires.place c.set_cell.ensures.here
          c.set_cell.ensures.others,
      omega arith,
    )

pub returns-then-r-count-clause-here : goal.returns-then-r-count-clause-here
returns-then-r-count-clause-here c =
    let past = c.if-r-count.true in
    marked_all c.args.table.now c.loop-r.table c.args.row.now c.args.width c.args.count c.args.at c.loop-r.next c.loop-r.invariant.0
    (λ r from r_in. c.in-Some.ensures.found.none_between r from (omega arith))

pub returns-then-r-count-clause-others : goal.returns-then-r-count-clause-others
returns-then-r-count-clause-others c = c.loop-r.invariant.0.others

pub returns-clause-here : goal.returns-clause-here
returns-clause-here c =
    marked_all c.args.table.now c.loop-r.table c.args.row.now c.args.width c.args.count c.args.at c.loop-r.next c.loop-r.invariant.0
    (λ r from r_in. c.in_default.ensures.none r from)

pub returns-clause-others : goal.returns-clause-others
returns-clause-others c = c.loop-r.invariant.0.others
