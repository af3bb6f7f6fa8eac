use Rattle.std.proofs.Common.{◌-◌, ◌≤◌}
use Rattle.delayed_across.specs.Listed.{ListsBefore}
use Rattle.delayed_across.proofs.finding.push_row.Given as goal

abbrev pub invariant-loop-q : goal.invariant-loop-q
invariant-loop-q l = ListsBefore l.board l.ranks l.left l.at l.pairs.items × (l.at ≤ l.board.states)

abbrev pub decreases-loop-q : goal.decreases-loop-q
decreases-loop-q l = l.board.states - l.at
