use Rattle.auto_laws.proofs.AppliedGraphLemmas.{graphs_extend as law}
use Rattle.auto_laws.proofs.graphs.graphs_extend.Goals as goal

pub returns : goal.returns
returns c = law
