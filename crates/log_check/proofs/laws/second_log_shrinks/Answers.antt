use Rattle.log_check.proofs.LawLemmas.{second_log_shrinks as law}
use Rattle.log_check.proofs.laws.second_log_shrinks.Goals as goal

pub returns : goal.returns
returns c = law
