use Rattle.auto_laws.proofs.PairLemmas.{sets_extend as law}
use Rattle.auto_laws.proofs.pairs.sets_extend.Goals as goal

pub returns : goal.returns
returns c = law
