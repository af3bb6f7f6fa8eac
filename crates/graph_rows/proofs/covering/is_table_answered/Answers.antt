use Rattle.std.proofs.Common.{◌≡◌, ◌/◌, ℕ, true, false, inl, inr, refl, sym, ◌∙◌, subst, arith, rules}
use Rattle.std.proofs.lemmas.Bool.{cases_eq, false≢true}
use Rattle.auto_core.specs.Reach.{HasArc}
use Rattle.auto_core.specs.Game.{Holds}
use Rattle.graph_rows.specs.Block.{width_of}
use Rattle.graph_rows.specs.Covering.{AnswersArcs, AnswersWord}
use Rattle.graph_rows.proofs.covering.is_table_answered.Goals as goal

pub loop-word-init : goal.loop-word-init
loop-word-init c = λ s t below. absurd (omega arith)

pub returns-then-not-is_word_answered : goal.returns-then-not-is_word_answered
returns-then-not-is_word_answered c =
    let n : ℕ = c.args.order.now.size in
    let same : c.words_for-width.result ≡ width_of n = search rules in
    let refused : c.is_word_answered.result ≡ false = search rules in (
      λ told. absurd (false≢true told),
      λ all.
          absurd (false≢true (sym refused
          ∙ c.is_word_answered.ensures.1
          (subst (λ w. AnswersWord (Holds c.args.order.now.pairs) (HasArc c.args.arcs.now n w) (HasArc c.args.other_arcs.now n w) c.loop-word.word) (sym same) (λ s t in_word arc. all s t arc)))),
    )

pub loop-word-preserved : goal.loop-word-preserved
loop-word-preserved c = λ s t below arc.
    let told : c.is_word_answered.result ≡ true = search rules in
    elim (cases_eq (t / 64) c.loop-word.word) [
      | inl here ↦ c.is_word_answered.ensures.0 told s t here arc
      | inr other ↦ c.loop-word.invariant s t (omega arith) arc
    ]

pub returns : goal.returns
returns c =
    let n : ℕ = c.args.order.now.size in
    let same : c.words_for-width.result ≡ width_of n = search rules in (
      λ told. subst (λ w. AnswersArcs (Holds c.args.order.now.pairs) (HasArc c.args.arcs.now n w) (HasArc c.args.other_arcs.now n w)) same
          (λ s t arc. c.loop-word.invariant s t (omega (arith, arc.1, same)) arc),
      λ all. refl,
    )
