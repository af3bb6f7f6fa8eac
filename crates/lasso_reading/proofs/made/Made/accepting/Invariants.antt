use Rattle.std.proofs.Common.{◌≡◌, filter}
use Rattle.std.specs.List.{range_with_len}
use Rattle.lasso_reading.specs.Made.{accepts_at}
use Rattle.lasso_reading.proofs.made.Made.accepting.Given as goal

abbrev pub invariant-loop-number : goal.invariant-loop-number
invariant-loop-number l = l.numbers.items ≡ filter (accepts_at l.automaton l.self.pairs.keys) (range_with_len 0 l.number)
