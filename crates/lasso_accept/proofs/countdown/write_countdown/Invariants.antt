use Rattle.auto_core.specs.Reach.{HasArc}
use Rattle.lasso_accept.proofs.CountdownLemmas.{IsCounted}
use Rattle.lasso_accept.proofs.countdown.write_countdown.Given as goal

abbrev pub invariant-loop-at : goal.invariant-loop-at
invariant-loop-at l = IsCounted (HasArc l.any l.count l.width) l.count l.width l.target l.at l.table
