use Rattle.auto_laws.proofs.AppliedGraphLemmas.{covered_lassos_are_accepted as law}
use Rattle.auto_laws.proofs.lassos.covered_lassos_are_accepted.Goals as goal

pub returns : goal.returns
returns c = law
