use Rattle.auto_laws.proofs.PairLemmas.{failing_pair_separates as law}
use Rattle.auto_laws.proofs.pairs.failing_pair_separates.Goals as goal

pub returns : goal.returns
returns c = law
