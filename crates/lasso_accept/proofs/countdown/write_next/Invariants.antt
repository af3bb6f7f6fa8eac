use Rattle.auto_core.specs.Reach.{HasArc}
use Rattle.lasso_accept.proofs.CountdownLemmas.{HasNext}
use Rattle.lasso_accept.proofs.countdown.write_next.Given as goal

abbrev pub invariant-loop-place : goal.invariant-loop-place
invariant-loop-place l = HasNext (HasArc l.any l.count l.width) l.count l.width l.at l.place l.fn.table l.table
