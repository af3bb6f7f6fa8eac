use Rattle.std.proofs.Common.{◌*◌, ◌≤◌, ◌-◌}
use Rattle.look_round.proofs.round.is_met.Given as goal

abbrev pub invariant-loop-q : goal.invariant-loop-q
invariant-loop-q g l = l.at ≤ l.width * 64

abbrev pub decreases-loop-q : goal.decreases-loop-q
decreases-loop-q g l = l.width * 64 - l.at
