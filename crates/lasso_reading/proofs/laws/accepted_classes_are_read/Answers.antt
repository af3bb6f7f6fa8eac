use Rattle.lasso_reading.proofs.ClassLemmas.{accepted_classes_read}
use Rattle.lasso_reading.proofs.laws.accepted_classes_are_read.Goals as goal

pub returns : goal.returns
returns c = accepted_classes_read
