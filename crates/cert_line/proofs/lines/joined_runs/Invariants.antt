use Rattle.std.proofs.Common.{◌≡◌, ◌≤◌, ◌++◌, ◌-◌, drop, length}
use Rattle.cert_line.specs.Lines.{joined_runs}
use Rattle.cert_line.proofs.lines.joined_runs.Given as goal

abbrev pub invariant-loop-at : goal.invariant-loop-at
invariant-loop-at l = (l.runs ++ joined_runs (drop l.at l.numbers) ≡ joined_runs l.numbers) × (l.at ≤ length l.numbers)

abbrev pub decreases-loop-at : goal.decreases-loop-at
decreases-loop-at l = length l.numbers - l.at
