use Rattle.reduce_loop.proofs.PassLemmas.{log_of_reduced}
use Rattle.reduce_loop.proofs.laws.log_is_of_reduced.Goals as goal

pub returns : goal.returns
returns c = log_of_reduced
