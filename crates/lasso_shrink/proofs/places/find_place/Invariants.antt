use Rattle.std.proofs.Common.{◌≡◌, ℕ, ◌+◌, ◌/◌, ◌<◌, length, take}
use Rattle.lasso_shrink.specs.Shrinking.{lasso_without, LassoSeparates}
use Rattle.lasso_shrink.specs.Prefixes.{IsFront}
use Rattle.lasso_shrink.proofs.places.find_place.Given as goal

abbrev pub invariant-loop-place : goal.invariant-loop-place
invariant-loop-place l = record {
  front : IsFront l.first (take l.place l.lasso.prefix) l.front;
  other_front : IsFront l.second (take l.place l.lasso.prefix) l.other_front;
  next : length l.next ≡ (l.first.states + 63) / 64;
  other_next : length l.other_next ≡ (l.second.states + 63) / 64;
  none : (k : ℕ) → k < l.place → LassoSeparates l.first l.second (lasso_without l.lasso k) → ⊥;
}
