use Rattle.auto_laws.proofs.AppliedLemmas.{closure_stays_stable as law}
use Rattle.auto_laws.proofs.games.closure_stays_stable.Goals as goal

pub returns : goal.returns
returns c = law
