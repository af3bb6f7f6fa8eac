use Rattle.auto_core.specs.Automaton.{trans_at}
use Rattle.useful_states.specs.Gathering.{HasGained}
use Rattle.useful_states.proofs.GatherLemmas.{Named}
use Rattle.useful_states.proofs.gathering.Gathered.add_targets.Given as goal

abbrev pub invariant-loop-t : goal.invariant-loop-t
invariant-loop-t l = HasGained (Named (λ t. (trans_at l.automaton t).target) l.initial.t l.t) l.initial.self l.self
