use Rattle.auto_laws.proofs.ClosedPairLemmas.{closed_pairs_include as law}
use Rattle.auto_laws.proofs.pairs.closed_pairs_include.Goals as goal

pub returns : goal.returns
returns c = law
