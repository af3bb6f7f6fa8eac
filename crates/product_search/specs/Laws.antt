-- What is so of automata that are trimmed.
use Rattle.auto_core.specs.Automaton.{Automaton}
use Rattle.auto_core.specs.Useful.{IsTrimmed}
use Rattle.auto_core.specs.declared.parts.Mode.TheVariants.{Buchi}
use Rattle.product_laws.specs.Reached.{MovesReachGoals}

-- The moves of a trimmed automaton lead to states that reach an accepting state on a cycle.
abbrev pub TrimmedReachGoals : Type 0
TrimmedReachGoals = (A B : Automaton) → IsTrimmed A Buchi B → MovesReachGoals B
