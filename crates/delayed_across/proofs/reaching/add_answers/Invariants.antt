use Rattle.useful_states.specs.Gathering.{HasGained}
use Rattle.delayed_across.proofs.PartLemmas.{AnswersIn}
use Rattle.delayed_across.proofs.reaching.add_answers.Given as goal

abbrev pub invariant-loop-t : goal.invariant-loop-t
invariant-loop-t l = HasGained (AnswersIn l.first l.second l.pairs l.bound l.pair.right l.initial.t l.t) l.initial.gathered l.gathered
