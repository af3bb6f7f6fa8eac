use Rattle.std.proofs.Common.{inl, inr, sym, subst, arith}
use Rattle.std.proofs.lemmas.Bool.{cases_eq, iff_false}
use Rattle.delayed_laws.specs.Listed.{delayed_at}
use Rattle.delayed_across.specs.Answered.{IsOfStates}
use Rattle.delayed_across.proofs.RefusalLemmas.{within_by_numbers}
use Rattle.delayed_across.proofs.checking.out_of_range.Goals as goal

pub loop-at-preserved : goal.loop-at-preserved
loop-at-preserved c = λ i lt. elim (cases_eq i c.loop-at.at) [
  | inl e ↦ subst (λ n. IsOfStates c.args.first.now c.args.second.now (delayed_at c.args.pairs.now n)) (sym e) (c.is_of_states.ensures.0 c.if-not-is_of_states.false)
  | inr apart ↦ c.loop-at.invariant i (omega arith)
]

pub returns-then-not-is_of_states-clause-some : goal.returns-then-not-is_of_states-clause-some
returns-then-not-is_of_states-clause-some c = record {
  within = c.loop-at-test.true;
  before = c.loop-at.invariant;
  here = iff_false c.is_of_states.ensures c.if-not-is_of_states.true;
}

pub returns-clause-none : goal.returns-clause-none
returns-clause-none c = within_by_numbers c.args.first.now c.args.second.now c.args.pairs.now (λ i lt. c.loop-at.invariant i (omega (arith, c.loop-at-test.false)))
