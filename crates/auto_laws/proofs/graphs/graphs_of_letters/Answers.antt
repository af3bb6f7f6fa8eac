use Rattle.auto_laws.proofs.AppliedGraphLemmas.{graphs_of_letters as law}
use Rattle.auto_laws.proofs.graphs.graphs_of_letters.Goals as goal

pub returns : goal.returns
returns c = law
