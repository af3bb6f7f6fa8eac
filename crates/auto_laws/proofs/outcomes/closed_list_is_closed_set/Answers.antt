use Rattle.auto_laws.proofs.OutcomeLemmas.{closed_list_is_closed_set as law}
use Rattle.auto_laws.proofs.outcomes.closed_list_is_closed_set.Goals as goal

pub returns : goal.returns
returns c = law
