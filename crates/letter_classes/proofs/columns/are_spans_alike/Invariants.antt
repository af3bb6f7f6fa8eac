use Rattle.std.proofs.Common.{ℕ, ◌+◌, ◌<◌}
use Rattle.letter_classes.specs.Columns.{AreAlike}
use Rattle.letter_classes.proofs.columns.are_spans_alike.Given as goal

abbrev pub invariant-loop-at : goal.invariant-loop-at
invariant-loop-at l =
    (k : ℕ) → k < l.at → (l.first.begin + k < l.first.end) × (l.second.begin + k < l.second.end) × AreAlike l.turned (l.first.begin + k) (l.second.begin + k)
