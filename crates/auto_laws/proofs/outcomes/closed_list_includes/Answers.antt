use Rattle.auto_laws.proofs.OutcomeLemmas.{closed_list_includes as law}
use Rattle.auto_laws.proofs.outcomes.closed_list_includes.Goals as goal

pub returns : goal.returns
returns c = law
