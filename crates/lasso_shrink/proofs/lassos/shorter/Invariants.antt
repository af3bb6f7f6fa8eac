use Rattle.std.proofs.Common.{ℕ, ◌<◌}
use Rattle.lasso_accept.specs.Tails.{HasTails}
use Rattle.lasso_shrink.specs.Shrinking.{LassoSeparates, lasso_without}
use Rattle.lasso_shrink.proofs.lassos.shorter.Given as goal

abbrev pub invariant-loop-place : goal.invariant-loop-place
invariant-loop-place l = record {
  none : (k : ℕ) → k < l.place → LassoSeparates l.first l.second (lasso_without l.lasso k) → ⊥;
  tails : HasTails l.first l.tails;
  other_tails : HasTails l.second l.other_tails;
}
