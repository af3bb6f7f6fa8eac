use Rattle.log_check.proofs.LawOneLemmas.{ends_one as law}
use Rattle.log_check.proofs.laws.ends_are_one.Goals as goal

pub returns : goal.returns
returns c = law
