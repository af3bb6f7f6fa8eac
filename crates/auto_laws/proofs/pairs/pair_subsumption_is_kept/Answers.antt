use Rattle.auto_laws.proofs.PairLemmas.{pair_subsumption_is_kept as law}
use Rattle.auto_laws.proofs.pairs.pair_subsumption_is_kept.Goals as goal

pub returns : goal.returns
returns c = law
