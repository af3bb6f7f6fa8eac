use Rattle.ranked_product.proofs.RefusalLemmas.{break_is_one as law}
use Rattle.ranked_product.proofs.laws.break_is_one.Goals as goal

pub returns : goal.returns
returns c = law
