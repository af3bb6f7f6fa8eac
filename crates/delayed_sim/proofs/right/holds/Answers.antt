use Rattle.std.proofs.Common.{inl, inr, refl, sym, subst, arith}
use Rattle.std.proofs.lemmas.Bool.{cases_eq, iff_false, false≢true}
use Rattle.delayed_sim.specs.Rankings.{triple_at}
use Rattle.delayed_sim.specs.Right.{IsTripleRight}
use Rattle.delayed_sim.proofs.RightLemmas.{right_of_places, place_of_right}
use Rattle.delayed_sim.proofs.right.holds.Goals as goal

pub returns-then-not-is_right : goal.returns-then-not-is_right
returns-then-not-is_right c =
    let X = c.args.delayed.now.triples in (
      (λ t. absurd (false≢true t)),
      λ right. absurd (iff_false c.is_right.ensures c.if-not-is_right.true
          (place_of_right c.args.automaton.now X c.loop-at.at c.count-at-end.ensures.valid.once (omega (arith, c.loop-at-test.true, c.count-at-end.ensures.count)) right)),
    )

pub loop-at-preserved : goal.loop-at-preserved
loop-at-preserved c = λ i lt. elim (cases_eq i c.loop-at.at) [
  | inl e ↦ subst (λ k. IsTripleRight c.args.automaton.now c.args.delayed.now.triples (triple_at c.args.delayed.now.triples k)) (sym e) (c.is_right.ensures.0 c.if-not-is_right.false)
  | inr apart ↦ c.loop-at.invariant i (omega arith)
]

pub returns : goal.returns
returns c = (
  (λ t. right_of_places c.args.automaton.now c.args.delayed.now.triples c.loop-at.at (omega (arith, c.loop-at-test.false, c.count-at-end.ensures.count)) c.loop-at.invariant),
  λ right. refl,
)
