use Rattle.std.proofs.Common.{◌≡◌, take, length}
use Rattle.delayed_sim.proofs.entries.padded.Given as goal

abbrev pub invariant-loop-at : goal.invariant-loop-at
invariant-loop-at l = (take l.at l.letters ≡ take l.at l.ahead) × (length l.letters ≡ 3)
