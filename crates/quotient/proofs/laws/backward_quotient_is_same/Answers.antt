use Rattle.quotient.proofs.MergeLaws.{backward_same}
use Rattle.quotient.proofs.laws.backward_quotient_is_same.Goals as goal

pub returns : goal.returns
returns c = backward_same
