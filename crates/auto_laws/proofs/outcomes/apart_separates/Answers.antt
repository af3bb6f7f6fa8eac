use Rattle.auto_laws.proofs.OutcomeLemmas.{apart_separates as law}
use Rattle.auto_laws.proofs.outcomes.apart_separates.Goals as goal

pub returns : goal.returns
returns c = law
