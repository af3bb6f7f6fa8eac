use Rattle.auto_laws.proofs.AppliedGraphLemmas.{lassos_are_cycles as law}
use Rattle.auto_laws.proofs.lassos.lassos_are_cycles.Goals as goal

pub returns : goal.returns
returns c = law
