use Rattle.auto_laws.proofs.AppliedGraphLemmas.{lassos_are_reached as law}
use Rattle.auto_laws.proofs.lassos.lassos_are_reached.Goals as goal

pub returns : goal.returns
returns c = law
