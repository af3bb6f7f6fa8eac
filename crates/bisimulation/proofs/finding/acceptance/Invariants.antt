use Rattle.std.proofs.Common.{◌≡◌, ◌<◌, ℕ, length, if◌then◌else◌}
use Rattle.auto_core.specs.Automaton.{is_accepting}
use Rattle.auto_core.specs.Quotient.{class_of}
use Rattle.bisimulation.proofs.finding.acceptance.Given as goal

abbrev pub invariant-loop-state : goal.invariant-loop-state
invariant-loop-state l =
    (length l.made.items ≡ l.state)
    × ((p : ℕ) → p < l.state → class_of l.made.items p ≡ (if is_accepting l.automaton p then 1 else 0))
