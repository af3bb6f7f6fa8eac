use Rattle.auto_core.specs.Automaton.{trans_at}
use Rattle.strong_components.specs.Graph.{at}
use Rattle.useful_states.specs.Gathering.{HasGained}
use Rattle.useful_states.proofs.GatherLemmas.{Named}
use Rattle.useful_states.proofs.gathering.Gathered.add_sources.Given as goal

abbrev pub invariant-loop-k : goal.invariant-loop-k
invariant-loop-k l = HasGained (Named (λ k. (trans_at l.automaton (at l.numbers k)).source) 0 l.k) l.initial.self l.self
