use Rattle.std.proofs.Common.{ℕ, ◌↔◌, inl, inr, List, [], ◌∷◌, ◌++◌, drop, refl, sym, subst, arith}
use Rattle.std.specs.Prelude.{IsTrue}
use Rattle.std.proofs.lemmas.Bool.{cases_eq}
use Rattle.delayed_sim.specs.Right.{HasAnswerBelow}
use Rattle.delayed_sim.proofs.RightLemmas.{ahead_of_all}
use Rattle.delayed_sim.proofs.right.is_answered_ahead.Goals as goal

pub loop-more-preserved : goal.loop-more-preserved
loop-more-preserved c = λ m lt.
    let A = c.args.automaton.now in
    let X = c.args.delayed.now.triples in
    let b = c.args.ahead.now in
    let more = c.loop-more.more in
    let Here : List ℕ → Type 0 = λ d. HasAnswerBelow A X c.args.below d c.args.q c.args.step.label c.args.step.target in
    elim (cases_eq m more) [
      | inl e ↦
          let told : IsTrue c.is_answered.result ↔ Here (drop 1 (b ++ more ∷ [])) = subst (λ d. IsTrue c.is_answered.result ↔ Here d) c.next_ahead-next.ensures c.is_answered.ensures in
          subst (λ k. Here (drop 1 (b ++ k ∷ []))) (sym e) (told.0 c.if-not-is_answered.false)
      | inr apart ↦ c.loop-more.invariant m (omega arith)
    ]

pub returns : goal.returns
returns c = (
  (λ yes. ahead_of_all c.args.automaton.now c.args.delayed.now.triples c.args.below c.args.ahead.now c.args.q c.args.step.label c.args.step.target c.loop-more.more (omega (arith, c.loop-more-test.false, c.labels-more-end.ensures.count)) c.loop-more.invariant),
  λ all. refl,
)
