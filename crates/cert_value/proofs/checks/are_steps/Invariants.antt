use Rattle.std.proofs.Common.{◌≡◌, ◌≤◌, drop, length}
use Rattle.cert_value.specs.WellFormed.{are_steps}
use Rattle.cert_value.proofs.checks.are_steps.Given as goal

abbrev pub invariant-loop-number : goal.invariant-loop-number
invariant-loop-number l = (are_steps l.number (drop l.number l.elements) (drop l.done l.steps) ≡ are_steps 0 l.elements l.steps) × (l.done ≤ length l.steps)
