use Rattle.std.proofs.Common.{rules, ◌≡◌, ◌*◌, ◌<◌, ℕ, true, sym, subst, ◌∙◌, arith}
use Rattle.auto_core.specs.Rows.{HasBit, HasCell}
use Rattle.look_round.proofs.round.is_met.Goals as goal

pub returns-then-next-q : goal.returns-then-next-q
returns-then-next-q g c =
    let q = c.in-Some.q in
    let width = c.requires.width in
    let rows_width = c.requires.answers.width in
    let below = c.if-q-states.false in
    let count = c.states.ensures.count in
    let near : q < c.args.width * 64 = omega arith in
    let room : q < c.args.answering.now.width * 64 = omega arith in
    let here : HasCell c.args.table.now c.args.width c.args.number q = sym (c.row_at.ensures.bits q near) ∙ c.in-Some.ensures.found.here in
    let bit : HasBit c.row_of-answers.result.now q = subst (HasBit c.row_of-answers.result.now) c.if-next-q.true c.in-Some-next_bit.ensures.found.here in
    let held : c.has_row.result ≡ true = search rules in
    let has = c.has_row.ensures.0 held in
    let (r, go, match, is) = (c.requires.answers.each c.args.step.to has.0 c.args.step.label q has.1 room).0 ((c.row_of-answers.ensures.bits q room).0 bit) in
    λ h. (r, (q, (omega arith, here), (go, match)), is)
