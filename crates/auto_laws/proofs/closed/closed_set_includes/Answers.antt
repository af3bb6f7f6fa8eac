use Rattle.auto_laws.proofs.ClosedLemmas.{closed_set_includes as law}
use Rattle.auto_laws.proofs.closed.closed_set_includes.Goals as goal

pub returns : goal.returns
returns c = law
