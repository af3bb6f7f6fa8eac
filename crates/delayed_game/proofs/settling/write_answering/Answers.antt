use Rattle.std.proofs.Common.{ℕ, ◌∙◌, arith}
use Rattle.std.proofs.lemmas.Nat.{row_fits}
use Rattle.delayed_game.proofs.BeforeLemmas.{bit_near}
use Rattle.delayed_game.proofs.MendLemmas.{mended_answers, made_answers}
use Rattle.delayed_game.proofs.settling.write_answering.Goals as goal

pub write_lost-requires-clause-row : goal.write_lost-requires-clause-row
write_lost-requires-clause-row c =
    omega (arith, row_fits c.args.to c.args.width c.args.places.now.states c.args.width c.requires.place (omega arith), c.requires.kept_len)

pub mend_before-requires-clause-lost : goal.mend_before-requires-clause-lost
mend_before-requires-clause-lost c = λ r bit.
    let w : ℕ = c.args.width in
    let near = bit_near c.write_lost.new.lost w r (c.write_lost.auto.lost ∙ c.requires.row_len) bit in
    c.requires.kept.columns c.args.to r c.requires.place (c.lost_few.ensures c.if-lost_few.true) near ((c.write_lost.ensures r near).0 bit).0

pub write_before-requires-clause-ends : goal.write_before-requires-clause-ends
write_before-requires-clause-ends c = λ q bit.
    let held = (c.row-ends.ensures.bits q).0 bit in
    let lt = (c.requires.valid.in_range c.args.to q held).1 in
    omega (arith, lt, c.requires.states)

pub returns-then-lost_few : goal.returns-then-lost_few
returns-then-lost_few c =
    mended_answers c.args.places.now c.args.automaton.now c.args.board.now c.args.width c.args.to c.row-ends.result.now c.mend_before.new.made c.requires.sound (omega (arith, c.requires.width)) c.row-ends.ensures.bits
    c.args.kept.now c.args.tried.now c.write_lost.new.lost c.requires.kept c.requires.place (c.lost_few.ensures c.if-lost_few.true) c.write_lost.ensures c.mend_before.ensures.keeps c.mend_before.ensures.clears

pub returns-else-lost_few : goal.returns-else-lost_few
returns-else-lost_few c =
    made_answers c.args.places.now c.args.automaton.now c.args.board.now c.args.width c.args.to c.row-ends.result.now c.write_before.new.made c.requires.sound (omega (arith, c.requires.width)) c.row-ends.ensures.bits
    c.requires.valid c.requires.states c.write_before.ensures
