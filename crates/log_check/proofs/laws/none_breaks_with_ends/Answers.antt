use Rattle.log_check.proofs.LawOneLemmas.{none_breaks as law}
use Rattle.log_check.proofs.laws.none_breaks_with_ends.Goals as goal

pub returns : goal.returns
returns c = law
