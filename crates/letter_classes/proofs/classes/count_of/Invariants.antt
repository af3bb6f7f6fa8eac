use Rattle.std.proofs.Common.{◌≤◌}
use Rattle.quotient.specs.Counting.{IsCount, AreInOrder}
use Rattle.letter_classes.proofs.classes.count_of.Given as goal

abbrev pub invariant-loop-at : goal.invariant-loop-at
invariant-loop-at l = IsCount l.of l.at l.count × AreInOrder l.of l.at × (l.count ≤ l.at)
