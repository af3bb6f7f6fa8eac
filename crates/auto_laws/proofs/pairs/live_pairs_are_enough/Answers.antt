use Rattle.auto_laws.proofs.PairOutcomeLemmas.{live_pairs_are_enough as law}
use Rattle.auto_laws.proofs.pairs.live_pairs_are_enough.Goals as goal

pub returns : goal.returns
returns c = law
