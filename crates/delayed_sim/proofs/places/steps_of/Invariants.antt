use Rattle.delayed_sim.specs.Steps.{AreSteps}
use Rattle.delayed_sim.proofs.places.steps_of.Given as goal

abbrev pub invariant-loop-number : goal.invariant-loop-number
invariant-loop-number l = AreSteps l.automaton l.words l.steps.items l.number
