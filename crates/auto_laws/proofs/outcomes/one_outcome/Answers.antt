use Rattle.auto_laws.proofs.OutcomeLemmas.{one_outcome as law}
use Rattle.auto_laws.proofs.outcomes.one_outcome.Goals as goal

pub returns : goal.returns
returns c = law
