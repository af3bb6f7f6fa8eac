use Rattle.std.proofs.Common.{◌≡◌, ◌+◌, ◌/◌, inl, inr, sym, ◌∙◌, subst, arith}
use Rattle.std.proofs.lemmas.Bool.{cases_eq}
use Rattle.auto_core.specs.Game.{Holds}
use Rattle.look_round.specs.Answering.{IsRowOfAnswers}
use Rattle.look_round.specs.ReplyLists.{AreReplyLists}
use Rattle.look_round.proofs.AnsweringLemmas.{answers_kept}
use Rattle.look_round.proofs.answering.Answering.new.Goals as goal

pub loop-t-init : goal.loop-t-init
loop-t-init g c =
    let M = g.S.Side.goes c.args.side.now c.args.automaton.now in
    let ok = g.S.Side.matches c.args.side.now c.args.automaton.now in
    let e = c.in_ok-made.ensures in
    let kept = e.kept in
    let width : c.words_for-width.result ≡ (c.args.automaton.now.states + 63) / 64 = omega (arith, c.words_for-width.ensures, c.states-count.ensures.count) in (
      e.width ∙ width,
      omega (arith, kept, c.states-count.ensures.count),
      λ p p_in. absurd (omega arith),
      subst (AreReplyLists M ok c.args.automaton.now.states) (sym e.lists) c.in_ok-lists.ensures,
      c.in_ok-arrivals.ensures.labels,
      c.in_ok-arrivals.ensures.width,
    )

pub refresh-requires-clause-like_labels : goal.refresh-requires-clause-like_labels
refresh-requires-clause-like_labels g c = c.loop-t.invariant.4

pub refresh-requires-clause-like_width : goal.refresh-requires-clause-like_width
refresh-requires-clause-like_width g c = c.loop-t.invariant.5

pub loop-t-preserved : goal.loop-t-preserved
loop-t-preserved g c =
    let M = g.S.Side.goes c.args.side.now c.args.automaton.now in
    let ok = g.S.Side.matches c.args.side.now c.args.automaton.now in
    let W = Holds c.args.rel.now.pairs in
    let e = c.refresh.ensures in
    let h = c.loop-t.invariant in
    let kept = e.kept in
    let upto = h.1 in (
      e.width ∙ h.0,
      omega arith,
      λ p p_in p_kept. elim (cases_eq p c.loop-t.t) [
        | inl same ↦ subst (λ x. IsRowOfAnswers M ok W c.refresh.new.self x) (sym same) (e.here (omega arith))
        | inr apart ↦ answers_kept M ok W c.loop-t.made c.refresh.new.self p e.labels e.width (λ x x_in. e.others p x x_in apart) (h.2 p (omega arith) (omega arith))
      ],
      subst (AreReplyLists M ok c.args.automaton.now.states) (sym e.lists) h.3,
      h.4 ∙ sym e.labels,
      h.5 ∙ sym e.width,
    )

pub returns : goal.returns
returns g c =
    let h = c.loop-t.invariant in
    let upto = h.1 in
    let count = c.states-count.ensures.count in
    record { width = h.0; each = λ p p_kept. h.2 p (omega (arith, c.loop-t-test.false, c.loop-t.auto.t-end)) p_kept; lists = h.3 }
