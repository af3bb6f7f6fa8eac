use Rattle.std.proofs.Common.{◌≡◌, ℕ, zero, suc, ◌≤◌, List, [], ◌∷◌, length, drop, nat_eq, arith}
use Rattle.std.proofs.lemmas.Grind.{common_steps}
use Rattle.std.proofs.lemmas.Bool.Decides.{nat_tests}
use Rattle.cert_value.specs.declared.types.StepLine.{StepLine}
use Rattle.cert_value.specs.WellFormed.{are_steps}

-- with no element left there is no line left
pub steps_end : (steps : List StepLine) (n done : ℕ) → done ≤ length steps → are_steps n [] (drop done steps) ≡ nat_eq done (length steps)
steps_end [] n done le = grind (arith, common_steps, nat_tests)
steps_end (s ∷ ss) n zero le = grind (arith, common_steps, nat_tests)
steps_end (s ∷ ss) n (suc done) le = grind (arith, common_steps, nat_tests, steps_end ss n done (omega arith))
