use Rattle.lasso_accept.proofs.LoopingLemmas.{accepts_from_initial}
use Rattle.lasso_accept.proofs.laws.lassos_are_accepted_from_the_initial_state.Goals as goal

pub returns : goal.returns
returns c = accepts_from_initial
