use Rattle.lasso_reading.proofs.WordLemmas.{accepted_alike}
use Rattle.lasso_reading.proofs.laws.spelled_alike_accepted_alike.Goals as goal

pub returns : goal.returns
returns c = accepted_alike
