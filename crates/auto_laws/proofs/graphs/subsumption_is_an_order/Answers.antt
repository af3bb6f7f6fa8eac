use Rattle.auto_laws.proofs.AppliedGraphLemmas.{subsumption_is_an_order as law}
use Rattle.auto_laws.proofs.graphs.subsumption_is_an_order.Goals as goal

pub returns : goal.returns
returns c = law
