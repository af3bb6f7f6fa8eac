use Rattle.std.proofs.Common.{◌<◌}
use Rattle.useful_states.specs.Gathering.{HoldsJust}
use Rattle.more_accepting.specs.More.{AcceptsMore}
use Rattle.more_accepting.proofs.making.accepting_more.Given as goal

abbrev pub invariant-loop-state : goal.invariant-loop-state
invariant-loop-state l = HoldsJust l.automaton.states (λ q. (q < l.state) × AcceptsMore l.automaton q) l.gathered
