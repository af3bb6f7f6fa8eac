use Rattle.decide.proofs.UniqueLemmas.{one_outcome_decides as law}
use Rattle.decide.proofs.laws.one_outcome_decides.Goals as goal

pub returns : goal.returns
returns c = law
