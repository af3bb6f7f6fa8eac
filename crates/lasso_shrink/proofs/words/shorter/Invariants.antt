use Rattle.std.proofs.Common.{ℕ, ◌<◌}
use Rattle.auto_core.specs.Accept.{SeparatesWord}
use Rattle.lasso_shrink.specs.Shrinking.{word_without}
use Rattle.lasso_shrink.proofs.words.shorter.Given as goal

abbrev pub invariant-loop-place : goal.invariant-loop-place
invariant-loop-place l = (k : ℕ) → k < l.place → SeparatesWord l.first l.second (word_without l.word k) → ⊥
