use Rattle.std.proofs.Common.{◌<◌}
use Rattle.auto_core.specs.Useful.{IsGoal}
use Rattle.auto_core.specs.declared.parts.Mode.TheVariants.{Buchi}
use Rattle.useful_states.specs.Gathering.{HoldsJust}
use Rattle.useful_states.proofs.searching.accepting_on_cycles.Given as goal

abbrev pub invariant-loop-state : goal.invariant-loop-state
invariant-loop-state l = HoldsJust l.automaton.states (λ q. (q < l.state) × IsGoal l.automaton Buchi q) l.gathered
