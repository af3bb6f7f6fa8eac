use Rattle.log_check.proofs.LawLemmas.{first_log_grows as law}
use Rattle.log_check.proofs.laws.first_log_grows.Goals as goal

pub returns : goal.returns
returns c = law
