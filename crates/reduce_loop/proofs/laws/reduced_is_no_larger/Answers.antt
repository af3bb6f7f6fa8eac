use Rattle.reduce_loop.proofs.PassLemmas.{reduced_no_larger}
use Rattle.reduce_loop.proofs.laws.reduced_is_no_larger.Goals as goal

pub returns : goal.returns
returns c = reduced_no_larger
