use Rattle.std.proofs.Common.{inl, inr, sym, subst, arith}
use Rattle.std.proofs.lemmas.Bool.{cases_eq, iff_false}
use Rattle.delayed_laws.specs.Listed.{place_pairs, delayed_at}
use Rattle.delayed_across.specs.Answered.{KeepsAnswers}
use Rattle.delayed_across.proofs.RefusalLemmas.{of_states_at, right_by_numbers}
use Rattle.delayed_across.proofs.checking.unanswered.Goals as goal

pub keeps_answers-requires-clause-states : goal.keeps_answers-requires-clause-states
keeps_answers-requires-clause-states c = of_states_at c.args.first.now c.args.second.now c.args.pairs.now c.requires.in_range c.loop-at.at c.loop-at-test.true

pub loop-at-preserved : goal.loop-at-preserved
loop-at-preserved c = λ i lt. elim (cases_eq i c.loop-at.at) [
  | inl e ↦ subst (λ n. KeepsAnswers c.args.first.now c.args.second.now (place_pairs c.args.pairs.now) (delayed_at c.args.pairs.now n)) (sym e) (c.keeps_answers.ensures.0 c.if-not-keeps_answers.false)
  | inr apart ↦ c.loop-at.invariant i (omega arith)
]

pub returns-then-not-keeps_answers-clause-some : goal.returns-then-not-keeps_answers-clause-some
returns-then-not-keeps_answers-clause-some c = record {
  within = c.loop-at-test.true;
  before = c.loop-at.invariant;
  here = iff_false c.keeps_answers.ensures c.if-not-keeps_answers.true;
}

pub returns-clause-none : goal.returns-clause-none
returns-clause-none c = right_by_numbers c.args.first.now c.args.second.now c.args.pairs.now (λ i lt. c.loop-at.invariant i (omega (arith, c.loop-at-test.false)))
