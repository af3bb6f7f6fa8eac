use Rattle.auto_laws.proofs.OriginLemmas.{origins_have_arcs as law}
use Rattle.auto_laws.proofs.closed.origins_have_arcs.Goals as goal

pub returns : goal.returns
returns c = law
