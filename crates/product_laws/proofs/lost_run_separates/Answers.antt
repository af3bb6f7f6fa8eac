use Rattle.product_laws.proofs.GoesLemmas.{lost_run_separates as law}
use Rattle.product_laws.proofs.lost_run_separates.Goals as goal

pub returns : goal.returns
returns c = law
