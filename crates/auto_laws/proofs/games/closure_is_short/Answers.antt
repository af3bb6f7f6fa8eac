use Rattle.auto_laws.proofs.AppliedLemmas.{closure_is_short as law}
use Rattle.auto_laws.proofs.games.closure_is_short.Goals as goal

pub returns : goal.returns
returns c = law
