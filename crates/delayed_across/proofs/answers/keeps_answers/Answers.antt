use Rattle.std.proofs.Common.{ℕ, ◌↔◌, IsTrue, Option, subst}
use Rattle.std.proofs.lemmas.Bool.{iff_false, false≢true}
use Rattle.delayed_game.specs.Settling.{AnswersAll}
use Rattle.delayed_laws.specs.Listed.{place_pairs}
use Rattle.delayed_across.specs.Answered.{HoldsBelow}
use Rattle.delayed_across.proofs.AnswerLemmas.{answers_kept, kept_answered}
use Rattle.delayed_across.proofs.answers.keeps_answers.Goals as goal

pub returns-then-not-has_right_rank : goal.returns-then-not-has_right_rank
returns-then-not-has_right_rank c = ((λ yes. absurd (false≢true yes)), λ kept. absurd (iff_false c.has_right_rank.ensures c.if-not-has_right_rank.true kept.rank))

pub returns : goal.returns
returns c =
    let A = c.args.first.now in
    let B = c.args.second.now in
    let X = place_pairs c.args.pairs.now in
    let x = c.args.pair in
    let all = subst (λ (o : Option ℕ). IsTrue c.answers_all.result ↔ AnswersAll A B (HoldsBelow X o) x.left x.right) c.bound_of.ensures c.answers_all.ensures in (
      (λ yes. answers_kept A B X x (c.has_right_rank.ensures.0 c.if-not-has_right_rank.false) (all.0 yes)),
      λ kept. all.1 (kept_answered A B X x kept),
    )
