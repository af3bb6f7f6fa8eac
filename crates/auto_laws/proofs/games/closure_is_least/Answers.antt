use Rattle.auto_laws.proofs.AppliedLemmas.{closure_is_least as law}
use Rattle.auto_laws.proofs.games.closure_is_least.Goals as goal

pub returns : goal.returns
returns c = law
