use Rattle.std.proofs.Common.{◌≡◌, ◌≤◌, ◌<◌, ◌+◌, ◌-◌, drop, length, slice_index}
use Rattle.cert_line.specs.Lines.{joined_runs, onto_runs}
use Rattle.cert_line.proofs.lines.run_end.Given as goal

abbrev pub invariant-loop-end : goal.invariant-loop-end
invariant-loop-end l =
    (l.from ≤ l.end) × (l.end < length l.numbers)
    × (joined_runs (drop l.from l.numbers)
    ≡ onto_runs (record { first = slice_index l.numbers l.from; last = slice_index l.numbers l.end }) (joined_runs (drop (l.end + 1) l.numbers)))

abbrev pub decreases-loop-end : goal.decreases-loop-end
decreases-loop-end l = length l.numbers - l.end
