use Rattle.reduce_loop.proofs.LogLemmas.{log_one}
use Rattle.reduce_loop.proofs.laws.log_is_one.Goals as goal

pub returns : goal.returns
returns c = log_one
