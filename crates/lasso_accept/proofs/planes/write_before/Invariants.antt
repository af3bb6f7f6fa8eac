use Rattle.std.proofs.Common.{List, ℕ, ◌++◌, drop}
use Rattle.lasso_accept.specs.Plane.{ArePlanes}
use Rattle.lasso_accept.proofs.planes.write_before.Given as goal

abbrev pub invariant-loop-at : goal.invariant-loop-at
invariant-loop-at l = (w : List ℕ) → ArePlanes l.automaton w l.width l.fn.any l.fn.flagged → ArePlanes l.automaton (drop l.at l.word ++ w) l.width l.any l.flagged
