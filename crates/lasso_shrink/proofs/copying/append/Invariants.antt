use Rattle.std.proofs.Common.{◌≡◌, ◌++◌, take}
use Rattle.lasso_shrink.proofs.copying.append.Given as goal

abbrev pub invariant-loop-at : goal.invariant-loop-at
invariant-loop-at l = l.word ≡ l.initial.word ++ take l.at l.letters
