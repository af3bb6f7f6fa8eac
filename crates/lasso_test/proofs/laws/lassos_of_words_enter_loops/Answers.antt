use Rattle.lasso_test.proofs.LoopLemmas.{words_enter}
use Rattle.lasso_test.proofs.laws.lassos_of_words_enter_loops.Goals as goal

pub returns : goal.returns
returns c = words_enter
