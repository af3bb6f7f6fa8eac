use Rattle.std.proofs.Common.{inl, inr, arith, rules}
use Rattle.std.proofs.lemmas.Bool.{cases_eq}
use Rattle.lasso_accept.proofs.PlaneLemmas.{no_bits}
use Rattle.lasso_accept.proofs.planes.is_clear.Goals as goal

pub loop-word-init : goal.loop-word-init
loop-word-init c = λ k below. absurd (omega arith)

pub loop-word-preserved : goal.loop-word-preserved
loop-word-preserved c = λ k below.
    elim (cases_eq k c.loop-word.word-index) [
      | inl e ↦ search rules
      | inr n ↦ c.loop-word.invariant k (omega arith)
    ]

pub returns : goal.returns
returns c = λ told. no_bits c.args.table.now (λ k k_in. c.loop-word.invariant k (omega (arith, c.loop-word-test.false)))
