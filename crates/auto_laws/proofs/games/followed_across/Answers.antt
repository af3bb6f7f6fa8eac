use Rattle.auto_laws.proofs.AppliedLemmas.{followed_across as law}
use Rattle.auto_laws.proofs.games.followed_across.Goals as goal

pub returns : goal.returns
returns c = law
