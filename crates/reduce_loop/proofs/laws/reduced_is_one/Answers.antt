use Rattle.reduce_loop.proofs.PassLemmas.{reduced_one}
use Rattle.reduce_loop.proofs.laws.reduced_is_one.Goals as goal

pub returns : goal.returns
returns c = reduced_one
