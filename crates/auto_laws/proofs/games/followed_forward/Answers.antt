use Rattle.auto_laws.proofs.AppliedLemmas.{followed_forward as law}
use Rattle.auto_laws.proofs.games.followed_forward.Goals as goal

pub returns : goal.returns
returns c = law
