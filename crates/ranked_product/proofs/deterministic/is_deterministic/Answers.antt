use Rattle.std.proofs.Common.{◌+◌, ◌-◌, inl, inr, length, refl, ap, arith}
use Rattle.std.proofs.lemmas.Bool.{cases_eq, iff_false, false≢true}
use Rattle.ranked_product.proofs.AlikeLemmas.{det_from_neighbours, alike_not_det, alike_at, alike_back}
use Rattle.ranked_product.proofs.deterministic.is_deterministic.Goals as goal

pub loop-at-preserved : goal.loop-at-preserved
loop-at-preserved c = λ k lt alike. elim (cases_eq (k + 1) c.loop-at.at) [
  | inl e ↦ iff_false c.leave_alike.ensures c.if-leave_alike.false (alike_at c.args.automaton.now c.transitions-transitions.result.now c.transitions-transitions.ensures.list k c.loop-at.at e alike)
  | inr apart ↦ c.loop-at.invariant k (omega arith) alike
]

pub returns : goal.returns
returns c =
    let size = ap length c.transitions-transitions.ensures.list in (
      (λ yes. det_from_neighbours c.args.automaton.now c.transitions-transitions.ensures.valid (λ k within. c.loop-at.invariant k (omega (arith, c.loop-at-test.false)))),
      λ det. refl,
    )

pub returns-then-leave_alike : goal.returns-then-leave_alike
returns-then-leave_alike c =
    let size = ap length c.transitions-transitions.ensures.list in
    let at = c.loop-at.at in (
      (λ yes. absurd (false≢true yes)),
      λ det. absurd (alike_not_det c.args.automaton.now c.transitions-transitions.ensures.valid (at - 1) (omega (arith, c.loop-at-test.true))
          (alike_back c.args.automaton.now c.transitions-transitions.result.now c.transitions-transitions.ensures.list at (omega arith) (c.leave_alike.ensures.0 c.if-leave_alike.true)) det),
    )
