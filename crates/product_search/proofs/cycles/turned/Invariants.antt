use Rattle.std.proofs.Common.{◌≡◌, ◌-◌, length, drop, reverse}
use Rattle.product_search.proofs.cycles.turned.Given as goal

abbrev pub invariant-loop-at : goal.invariant-loop-at
invariant-loop-at l = l.word ≡ reverse (drop (length l.letters - l.at) l.letters)
