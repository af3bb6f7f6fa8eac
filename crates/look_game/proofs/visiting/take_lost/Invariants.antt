use Rattle.std.proofs.Common.{◌-◌, ◌≤◌}
use Rattle.look_game.proofs.VisitLemmas.{IsTaking}
use Rattle.look_game.proofs.visiting.take_lost.Given as goal

abbrev pub invariant-loop-q : goal.invariant-loop-q
invariant-loop-q l = IsTaking l.p l.lost l.fn.rel l.rel l.changed l.at × (l.at ≤ l.fn.rel.size)

abbrev pub decreases-loop-q : goal.decreases-loop-q
decreases-loop-q l = l.fn.rel.size - l.at
