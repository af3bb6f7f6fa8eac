use Rattle.product_laws.proofs.RankLemmas.{ranked_product_includes as law}
use Rattle.product_laws.proofs.ranked_product_includes.Goals as goal

pub returns : goal.returns
returns c = law
