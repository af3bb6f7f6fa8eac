use Rattle.auto_laws.proofs.BoundLemmas.{bounds_rise as law}
use Rattle.auto_laws.proofs.bounds.bounds_rise.Goals as goal

pub returns : goal.returns
returns c = law
