use Rattle.lasso_reading.proofs.ProductLemmas.{reads_just}
use Rattle.lasso_reading.proofs.laws.product_reads_just.Goals as goal

pub returns : goal.returns
returns c = reads_just
