use Rattle.auto_laws.proofs.PairOutcomeLemmas.{live_pairs_stand_apart as law}
use Rattle.auto_laws.proofs.pairs.live_pairs_stand_apart.Goals as goal

pub returns : goal.returns
returns c = law
