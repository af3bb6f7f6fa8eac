use Rattle.lasso_test.proofs.LoopLemmas.{values_enter}
use Rattle.lasso_test.proofs.laws.lassos_enter_loops.Goals as goal

pub returns : goal.returns
returns c = values_enter
