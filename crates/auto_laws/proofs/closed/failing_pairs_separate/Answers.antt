use Rattle.auto_laws.proofs.ClosedLemmas.{failing_pairs_separate as law}
use Rattle.auto_laws.proofs.closed.failing_pairs_separate.Goals as goal

pub returns : goal.returns
returns c = law
