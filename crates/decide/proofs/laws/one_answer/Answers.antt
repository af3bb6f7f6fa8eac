use Rattle.decide.proofs.UniqueLemmas.{one_answer as law}
use Rattle.decide.proofs.laws.one_answer.Goals as goal

pub returns : goal.returns
returns c = law
