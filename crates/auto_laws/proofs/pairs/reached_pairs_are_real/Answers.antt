use Rattle.auto_laws.proofs.PairLemmas.{reached_pairs_are_real as law}
use Rattle.auto_laws.proofs.pairs.reached_pairs_are_real.Goals as goal

pub returns : goal.returns
returns c = law
