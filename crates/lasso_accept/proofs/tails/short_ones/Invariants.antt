use Rattle.std.proofs.Common.{take}
use Rattle.lasso_accept.specs.Tails.{AreShort}
use Rattle.lasso_accept.proofs.tails.short_ones.Given as goal

abbrev pub invariant-loop-at : goal.invariant-loop-at
invariant-loop-at l = AreShort l.most (take l.at l.kept)
