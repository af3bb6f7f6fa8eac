use Rattle.std.proofs.Common.{◌+◌, ◌-◌, inl, inr, refl, sym, ◌∙◌, arith}
use Rattle.std.proofs.lemmas.Bool.{cases_eq, false≢true}
use Rattle.delayed_laws.specs.Listed.{delayed_at}
use Rattle.delayed_across.proofs.LookupLemmas.{before_from_test, test_from_before, ascending_by_neighbours, neighbours_at}
use Rattle.delayed_across.proofs.lookup.are_ascending.Goals as goal

pub loop-at-preserved : goal.loop-at-preserved
loop-at-preserved c = λ k lt. elim (cases_eq (k + 1) c.loop-at.at) [
  | inl e ↦
      let x = delayed_at c.args.pairs.now (c.loop-at.at - 1) in
      let y = delayed_at c.args.pairs.now c.loop-at.at in
      (neighbours_at c.args.pairs.now k c.loop-at.at e).0 (before_from_test y.left y.right x (sym c.is_before.ensures ∙ c.if-not-is_before.false))
  | inr apart ↦ c.loop-at.invariant k (omega arith)
]

pub returns-then-not-is_before : goal.returns-then-not-is_before
returns-then-not-is_before c = (
  (λ yes. absurd (false≢true yes)),
  λ all.
      let x = delayed_at c.args.pairs.now (c.loop-at.at - 1) in
      let y = delayed_at c.args.pairs.now c.loop-at.at in
      let before = all (c.loop-at.at - 1) c.loop-at.at (omega (arith, c.loop-at.auto.at)) c.loop-at-test.true in
      absurd (false≢true (sym c.if-not-is_before.true ∙ c.is_before.ensures ∙ test_from_before y.left y.right x before)),
)

pub returns : goal.returns
returns c = ((λ yes. ascending_by_neighbours c.args.pairs.now (λ k within. c.loop-at.invariant k (omega (arith, c.loop-at-test.false)))), λ all. refl)
