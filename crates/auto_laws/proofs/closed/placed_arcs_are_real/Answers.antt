use Rattle.auto_laws.proofs.OriginLemmas.{placed_arcs_are_real as law}
use Rattle.auto_laws.proofs.closed.placed_arcs_are_real.Goals as goal

pub returns : goal.returns
returns c = law
