use Rattle.auto_laws.proofs.OutcomeLemmas.{limit_lists as law}
use Rattle.auto_laws.proofs.outcomes.limit_lists.Goals as goal

pub returns : goal.returns
returns c = law
