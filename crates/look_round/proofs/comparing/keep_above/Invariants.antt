use Rattle.std.proofs.Common.{◌-◌, ◌*◌, ◌≤◌}
use Rattle.look_round.proofs.CompareLemmas.{IsKeptUpto}
use Rattle.look_round.proofs.comparing.keep_above.Given as goal

abbrev pub invariant-loop-q : goal.invariant-loop-q
invariant-loop-q l = IsKeptUpto l.fn.table l.table l.width l.p l.had l.span l.at × (l.at ≤ l.width * 64)

abbrev pub decreases-loop-q : goal.decreases-loop-q
decreases-loop-q l = l.width * 64 - l.at
