use Rattle.auto_laws.proofs.PairOutcomeLemmas.{one_pair_outcome as law}
use Rattle.auto_laws.proofs.pairs.one_pair_outcome.Goals as goal

pub returns : goal.returns
returns c = law
