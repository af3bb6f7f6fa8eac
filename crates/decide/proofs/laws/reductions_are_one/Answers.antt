use Rattle.decide.proofs.EndUniqueLemmas.{reductions_are_one as law}
use Rattle.decide.proofs.laws.reductions_are_one.Goals as goal

pub returns : goal.returns
returns c = law
