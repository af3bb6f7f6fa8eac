use Rattle.auto_laws.proofs.AppliedLemmas.{followed_to_the_end as law}
use Rattle.auto_laws.proofs.games.followed_to_the_end.Goals as goal

pub returns : goal.returns
returns c = law
