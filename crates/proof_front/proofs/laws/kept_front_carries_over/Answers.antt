use Rattle.proof_front.proofs.TruthLemmas.{kept_front as law}
use Rattle.proof_front.proofs.laws.kept_front_carries_over.Goals as goal

pub returns : goal.returns
returns c = law
