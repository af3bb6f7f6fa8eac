use Rattle.std.proofs.Common.{◌-◌, ◌≤◌}
use Rattle.delayed_game.proofs.BeforeLemmas.{HasGiven}
use Rattle.delayed_game.proofs.levels.give_ranks.Given as goal

abbrev pub invariant-loop-q : goal.invariant-loop-q
invariant-loop-q l = HasGiven l.fn.unranked l.fn.ranks l.p l.row l.rank l.unranked l.ranks l.at × (l.at ≤ l.fn.unranked.states)

abbrev pub decreases-loop-q : goal.decreases-loop-q
decreases-loop-q l = l.fn.unranked.states - l.at
