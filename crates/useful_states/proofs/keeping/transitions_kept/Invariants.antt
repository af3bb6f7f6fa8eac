use Rattle.std.proofs.Common.{◌≡◌, map, filter, take}
use Rattle.useful_states.specs.KeptParts.{joins, renumbered}
use Rattle.useful_states.proofs.keeping.transitions_kept.Given as goal

abbrev pub invariant-loop-at : goal.invariant-loop-at
invariant-loop-at l = l.made.items ≡ map (renumbered l.automaton l.kept.members) (filter (joins l.kept.members) (take l.at l.automaton.transitions))
