use Rattle.product_laws.proofs.ClosedLemmas.{closed_pairs_are_product as law}
use Rattle.product_laws.proofs.closed_pairs_are_product.Goals as goal

pub returns : goal.returns
returns c = law
