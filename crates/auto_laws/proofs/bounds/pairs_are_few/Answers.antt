use Rattle.auto_laws.proofs.BoundLemmas.{pairs_are_few as law}
use Rattle.auto_laws.proofs.bounds.pairs_are_few.Goals as goal

pub returns : goal.returns
returns c = law
