use Rattle.auto_laws.proofs.AppliedGraphLemmas.{subsumption_is_kept as law}
use Rattle.auto_laws.proofs.graphs.subsumption_is_kept.Goals as goal

pub returns : goal.returns
returns c = law
