use Rattle.std.proofs.Common.{inl, inr, sym, subst, arith}
use Rattle.std.proofs.lemmas.Bool.{cases_eq}
use Rattle.auto_core.specs.Game.{Holds}
use Rattle.graph_rows.proofs.covering.is_reflexive.Goals as goal

pub loop-state-init : goal.loop-state-init
loop-state-init c = λ p below. absurd (omega arith)

pub loop-state-preserved : goal.loop-state-preserved
loop-state-preserved c = λ p below. elim (cases_eq p c.loop-state.state) [
  | inl here ↦ subst (λ q. Holds c.args.order.now.pairs q q) (sym here) (c.get.ensures.told.0 c.if-not-get.false)
  | inr before ↦ c.loop-state.invariant p (omega arith)
]

pub returns : goal.returns
returns c = λ told p below. c.loop-state.invariant p (omega (arith, below, c.loop-state-test.false, c.size-state-end.ensures.count))
