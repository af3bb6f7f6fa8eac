use Rattle.proof_front.proofs.TruthLemmas.{front_makes as law}
use Rattle.proof_front.proofs.laws.kept_front_makes_automata.Goals as goal

pub returns : goal.returns
returns c = law
