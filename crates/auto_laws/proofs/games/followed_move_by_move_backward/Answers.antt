use Rattle.auto_laws.proofs.AppliedLemmas.{followed_move_by_move_backward as law}
use Rattle.auto_laws.proofs.games.followed_move_by_move_backward.Goals as goal

pub returns : goal.returns
returns c = law
