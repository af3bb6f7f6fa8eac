use Rattle.proof_front.proofs.OneLemmas.{front_one as law}
use Rattle.proof_front.proofs.laws.front_has_one_outcome.Goals as goal

pub returns : goal.returns
returns c = law
