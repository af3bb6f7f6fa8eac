use Rattle.std.proofs.Common.{◌≡◌, ◌≤◌, ◌++◌, ◌-◌, drop, length}
use Rattle.cert_line.specs.Lines.{by_two}
use Rattle.cert_line.proofs.lines.by_two.Given as goal

abbrev pub invariant-loop-at : goal.invariant-loop-at
invariant-loop-at g l = (l.pairs ++ by_two g.T.Pair.of (drop l.at l.numbers) ≡ by_two g.T.Pair.of l.numbers) × (l.at ≤ length l.numbers)

abbrev pub decreases-loop-at : goal.decreases-loop-at
decreases-loop-at g l = length l.numbers - l.at
