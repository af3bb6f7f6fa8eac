use Rattle.reduce_loop.proofs.PassLemmas.{reduced_settled}
use Rattle.reduce_loop.proofs.laws.reduced_is_settled.Goals as goal

pub returns : goal.returns
returns c = reduced_settled
