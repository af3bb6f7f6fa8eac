use Rattle.product_laws.proofs.GoesLemmas.{included_has_no_fault as law}
use Rattle.product_laws.proofs.included_has_no_fault.Goals as goal

pub returns : goal.returns
returns c = law
