use Rattle.lasso_test.proofs.LoopLemmas.{blocks_enter}
use Rattle.lasso_test.proofs.laws.lassos_in_blocks_enter_loops.Goals as goal

pub returns : goal.returns
returns c = blocks_enter
