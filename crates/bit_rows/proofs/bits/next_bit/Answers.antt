use Rattle.std.proofs.Common.{◌/◌, arith}
use Rattle.std.proofs.Math.Facts.{Fits-lt-pow}
use Rattle.bit_rows.proofs.WordLemmas.{next_in_first, next_in_later, none_at_all}
use Rattle.bit_rows.proofs.bits.next_bit.Goals as goal

pub returns-then-rest-ne0-clause-found : goal.returns-then-rest-ne0-clause-found
returns-then-rest-ne0-clause-found c =
    let from = c.args.from in
    let fits = Fits-lt-pow (c.type_inv.row (from / 64)) in
    next_in_first c.args.row.now from (omega (arith, c.if-first-row.false)) fits c.if-rest-ne0.true

pub returns-then-row-at-ne0-clause-found : goal.returns-then-row-at-ne0-clause-found
returns-then-row-at-ne0-clause-found c =
    next_in_later c.args.row.now c.args.from c.loop-at.at c.loop-at-test.true (omega (arith, c.loop-at.auto.at)) c.if-rest-ne0.false c.loop-at.invariant
    (Fits-lt-pow (c.type_inv.row c.loop-at.at)) c.if-row-at-ne0.true

pub returns-clause-none : goal.returns-clause-none
returns-clause-none c = none_at_all c.args.row.now c.args.from c.if-rest-ne0.false (λ k later k_in. c.loop-at.invariant k later (omega (arith, c.loop-at-test.false)))
