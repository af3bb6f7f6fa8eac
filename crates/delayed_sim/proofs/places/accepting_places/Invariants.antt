use Rattle.delayed_sim.specs.Steps.{AreAcceptingPlaces}
use Rattle.delayed_sim.proofs.places.accepting_places.Given as goal

abbrev pub invariant-loop-x : goal.invariant-loop-x
invariant-loop-x l = AreAcceptingPlaces l.automaton l.words l.accepting.items l.x
