use Rattle.auto_laws.proofs.BoundLemmas.{supergraphs_are_few as law}
use Rattle.auto_laws.proofs.bounds.supergraphs_are_few.Goals as goal

pub returns : goal.returns
returns c = law
