use Rattle.delayed_sim.proofs.RoundLemmas.{shortened_none, shortened_then}
use Rattle.delayed_sim.proofs.rounds.settle.Goals as goal

pub passes-init : goal.passes-init
passes-init c = (shortened_none c.args.delayed.now c.requires.valid, c.requires.each)

pub passes-preserved : goal.passes-preserved
passes-preserved c = (
  shortened_then c.args.delayed.now c.passes.delayed c.drop_unanswered.new.delayed c.passes.invariant.0 c.drop_unanswered.ensures.thins.shortened,
  c.drop_unanswered.ensures.each,
)

pub returns-clause-shortened : goal.returns-clause-shortened
returns-clause-shortened c = shortened_then c.args.delayed.now c.passes.delayed c.drop_unanswered.new.delayed c.passes.invariant.0 c.drop_unanswered.ensures.thins.shortened

pub returns-clause-answered : goal.returns-clause-answered
returns-clause-answered c = c.drop_unanswered.ensures.answered c.passes-test.false
