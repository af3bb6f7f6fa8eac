use Rattle.auto_laws.proofs.OutcomeLemmas.{greatest_is_an_order as law}
use Rattle.auto_laws.proofs.outcomes.greatest_is_an_order.Goals as goal

pub returns : goal.returns
returns c = law
