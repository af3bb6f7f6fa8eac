use Rattle.auto_laws.proofs.PairEntryLemmas.{placed_pairs_are_reached as law}
use Rattle.auto_laws.proofs.pairs.placed_pairs_are_reached.Goals as goal

pub returns : goal.returns
returns c = law
