use Rattle.lasso_shrink.proofs.PrefixLemmas.{AreRewritten}
use Rattle.lasso_shrink.proofs.rests.rewrite.Given as goal

abbrev pub invariant-loop-at : goal.invariant-loop-at
invariant-loop-at l = AreRewritten l.automaton l.lasso.prefix l.lasso.turn l.fn.place l.width l.first l.table l.at
