use Rattle.std.proofs.Common.{◌*◌, ◌≤◌}
use Rattle.look_round.proofs.words.has_most.Given as goal

abbrev pub invariant-loop-i : goal.invariant-loop-i
invariant-loop-i l = l.count ≤ l.i * 64
