use Rattle.direct_sim.proofs.GreatestLemmas.{greatest_follows_moves as law}
use Rattle.direct_sim.proofs.laws.greatest_follows_moves.Goals as goal

pub returns : goal.returns
returns c = law
