use Rattle.std.proofs.Common.{◌≡◌, inl, inr, length, sym, ◌∙◌, arith}
use Rattle.std.proofs.lemmas.Bool.{false≢true}
use Rattle.auto_core.specs.Rows.{bit_of}
use Rattle.auto_core.specs.Game.{Holds}
use Rattle.look_round.proofs.AnsweringLemmas.{bit_cases, bit_within, answer_next, answer_all}
use Rattle.look_round.proofs.answering.Answering.unanswered.Goals as goal

pub loop-at-preserved : goal.loop-at-preserved
loop-at-preserved g c =
    let A = c.args.automaton.now in
    let s = c.args.side.now in
    let M = g.S.Side.goes s A in
    let ok = g.S.Side.matches s A in
    let W = Holds c.args.rel.now.pairs in
    let new = c.keep_answering.new.row in
    let h = c.loop-at.invariant in
    let width = c.requires.answers.width in
    let len : length new ≡ c.args.self.now.width = c.keep_answering.auto.row ∙ h.0 ∙ sym width in (
      c.keep_answering.auto.row ∙ h.0,
      answer_next M ok W (g.S.Side.list s A c.args.p) c.loop-at.rest new c.loop-at.at c.nth.result h.1 c.nth.ensures.item
          (λ q bit. c.keep_answering.ensures q (bit_within new c.args.self.now.width q len bit) bit),
    )

pub returns-clause-answered : goal.returns-clause-answered
returns-clause-answered g c = λ q held none a r go.
    let A = c.args.automaton.now in
    let s = c.args.side.now in
    let M = g.S.Side.goes s A in
    let ok = g.S.Side.matches s A in
    let W = Holds c.args.rel.now.pairs in
    let sure = c.loop-at.rest in
    let count : c.loop-at.at ≡ length (g.S.Side.list s A c.args.p) = omega (arith, c.moves-at-end.ensures) in
    elim (bit_cases (bit_of sure q)) [
      | inl bit ↦ answer_all M ok W (g.S.Side.list s A c.args.p) sure c.args.p c.loop-at.at (g.met.S.Side.lists s A c.args.p) count c.loop-at.invariant.1 q a r bit go
      | inr clear ↦ absurd (none ((c.leave_others.ensures q).1 ((c.row-related.ensures.bits q).1 held, λ bit. false≢true (sym clear ∙ bit))))
    ]
