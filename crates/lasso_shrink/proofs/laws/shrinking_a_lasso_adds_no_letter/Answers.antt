use Rattle.lasso_shrink.proofs.LawLemmas.{shrinking_a_lasso_adds_no_letter as law}
use Rattle.lasso_shrink.proofs.laws.shrinking_a_lasso_adds_no_letter.Goals as goal

pub returns : goal.returns
returns c = law
