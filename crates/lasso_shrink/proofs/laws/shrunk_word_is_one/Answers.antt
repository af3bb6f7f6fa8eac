use Rattle.lasso_shrink.proofs.LawLemmas.{shrunk_word_is_one as law}
use Rattle.lasso_shrink.proofs.laws.shrunk_word_is_one.Goals as goal

pub returns : goal.returns
returns c = law
