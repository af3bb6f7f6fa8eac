use Rattle.lasso_accept.proofs.RunLemmas.{runs_tell}
use Rattle.lasso_accept.proofs.laws.runs_tell_acceptance.Goals as goal

pub returns : goal.returns
returns c = runs_tell
