use Rattle.std.proofs.Common.{◌≡◌, filter, take}
use Rattle.more_accepting.specs.Making.{is_beside}
use Rattle.more_accepting.proofs.parts.moves_beside.Given as goal

abbrev pub invariant-loop-at : goal.invariant-loop-at
invariant-loop-at l = l.made.items ≡ filter (is_beside l.automaton) (take l.at l.automaton.transitions)
