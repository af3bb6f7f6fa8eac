use Rattle.std.proofs.Common.{◌<◌}
use Rattle.auto_core.specs.Automaton.{IsAccepting}
use Rattle.useful_states.specs.Gathering.{HoldsJust}
use Rattle.useful_states.proofs.searching.accepting.Given as goal

abbrev pub invariant-loop-state : goal.invariant-loop-state
invariant-loop-state l = HoldsJust l.automaton.states (λ q. (q < l.state) × IsAccepting l.automaton q) l.gathered
