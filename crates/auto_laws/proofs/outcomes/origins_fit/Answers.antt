use Rattle.auto_laws.proofs.OutcomeLemmas.{origins_fit as law}
use Rattle.auto_laws.proofs.outcomes.origins_fit.Goals as goal

pub returns : goal.returns
returns c = law
