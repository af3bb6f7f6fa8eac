use Rattle.std.proofs.Common.{◌≡◌, ℕ, ◌+◌, [], ◌∷◌, ◌++◌, take, slice_index_or, refl, sym, subst, take_all}
use Rattle.std.proofs.lemmas.Bool.{iff_false, false≢true}
use Rattle.std.proofs.lemmas.List.{take_more}
use Rattle.std.proofs.lemmas.List.Elements.{Contains-get_or}
use Rattle.auto_core.specs.Game.{Holds}
use Rattle.look_round.proofs.ListedLemmas.{NoneAnswers, one_more_fails}
use Rattle.look_round.proofs.list_rounds.one_answers.Goals as goal

pub returns-then-has_reply_in : goal.returns-then-has_reply_in
returns-then-has_reply_in g c =
    let found = c.has_reply_in.ensures.0 c.if-has_reply_in.true in
    let r = found.0 in (
      λ h. (r, (slice_index_or c.args.from.now c.loop-i.i 0, Contains-get_or c.args.from.now c.loop-i.i 0 c.loop-i-test.true, found.1), (c.row.ensures.bits r).0 found.2),
      λ h. refl,
    )

pub loop-i-preserved : goal.loop-i-preserved
loop-i-preserved g c =
    let M = g.S.Side.goes c.args.side.now c.args.automaton.now in
    let ok = g.S.Side.matches c.args.side.now c.args.automaton.now in
    let W = Holds c.args.rel.now.pairs in
    let from = c.args.from.now in
    let i = c.loop-i.i in
    let q : ℕ = slice_index_or from i 0 in
    let a = c.args.step.label in
    let p = c.args.step.to in
    let more : take (i + 1) from ≡ take i from ++ q ∷ [] = take_more from i 0 c.loop-i-test.true in
    let none = iff_false c.has_reply_in.ensures c.if-has_reply_in.false in
    subst (λ l. NoneAnswers M ok W a p l) (sym more)
    (one_more_fails M ok W a p (take i from) q c.loop-i.invariant (λ r reply related. none (r, reply, (c.row.ensures.bits r).1 related)))

pub returns : goal.returns
returns g c =
    let M = g.S.Side.goes c.args.side.now c.args.automaton.now in
    let ok = g.S.Side.matches c.args.side.now c.args.automaton.now in
    let W = Holds c.args.rel.now.pairs in
    let none : NoneAnswers M ok W c.args.step.label c.args.step.to c.args.from.now =
    subst (λ l. NoneAnswers M ok W c.args.step.label c.args.step.to l) (take_all c.loop-i.i c.args.from.now c.loop-i-test.false) c.loop-i.invariant in
    (λ h. absurd (false≢true h), λ (r, found, related). absurd (none r found related))
