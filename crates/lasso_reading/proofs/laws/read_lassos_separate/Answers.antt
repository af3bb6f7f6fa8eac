use Rattle.lasso_reading.proofs.ClassLemmas.{read_separate}
use Rattle.lasso_reading.proofs.laws.read_lassos_separate.Goals as goal

pub returns : goal.returns
returns c = read_separate
