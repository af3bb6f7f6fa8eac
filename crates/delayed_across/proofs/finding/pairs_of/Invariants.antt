use Rattle.delayed_across.specs.Listed.{ListsBefore}
use Rattle.delayed_across.proofs.finding.pairs_of.Given as goal

abbrev pub invariant-loop-left : goal.invariant-loop-left
invariant-loop-left l = ListsBefore l.board l.ranks l.left 0 l.pairs.items
