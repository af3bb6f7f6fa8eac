use Rattle.reduce_loop.proofs.PassLemmas.{reduced_same}
use Rattle.reduce_loop.proofs.laws.reduced_accepts_the_same.Goals as goal

pub returns : goal.returns
returns c = reduced_same
