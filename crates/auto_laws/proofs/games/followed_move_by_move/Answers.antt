use Rattle.auto_laws.proofs.AppliedLemmas.{followed_move_by_move as law}
use Rattle.auto_laws.proofs.games.followed_move_by_move.Goals as goal

pub returns : goal.returns
returns c = law
