use Rattle.log_check.proofs.LawOneLemmas.{break_one as law}
use Rattle.log_check.proofs.laws.break_is_one.Goals as goal

pub returns : goal.returns
returns c = law
