use Rattle.std.proofs.Common.{◌≡◌, filter, take}
use Rattle.more_accepting.specs.Making.{is_inside}
use Rattle.more_accepting.proofs.parts.moves_inside.Given as goal

abbrev pub invariant-loop-at : goal.invariant-loop-at
invariant-loop-at l = l.made.items ≡ filter (is_inside l.numbers) (take l.at l.automaton.transitions)
