use Rattle.ranked_product.proofs.RefusalLemmas.{product_breaks_none as law}
use Rattle.ranked_product.proofs.laws.product_breaks_none.Goals as goal

pub returns : goal.returns
returns c = law
