use Rattle.proof_check.proofs.ListLemmas.{product_keeps as law}
use Rattle.proof_check.proofs.laws.ranked_products_keep_the_rules.Goals as goal

pub returns : goal.returns
returns c = law
