use Rattle.std.proofs.Common.{◌≡◌, ◌++◌, ◌∷◌, [], length, take, drop}
use Rattle.delayed_sim.proofs.right.next_ahead.Given as goal

abbrev pub invariant-loop-at : goal.invariant-loop-at
invariant-loop-at l = (take l.at l.next ≡ take l.at (drop 1 (l.ahead ++ l.more ∷ []))) × (length l.next ≡ 3)
