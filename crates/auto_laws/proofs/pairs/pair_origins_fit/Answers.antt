use Rattle.auto_laws.proofs.PairOutcomeLemmas.{pair_origins_fit as law}
use Rattle.auto_laws.proofs.pairs.pair_origins_fit.Goals as goal

pub returns : goal.returns
returns c = law
