use Rattle.product_laws.proofs.GoesLemmas.{cycle_separates as law}
use Rattle.product_laws.proofs.cycle_separates.Goals as goal

pub returns : goal.returns
returns c = law
