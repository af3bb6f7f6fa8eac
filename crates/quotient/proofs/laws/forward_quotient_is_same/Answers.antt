use Rattle.quotient.proofs.MergeLaws.{forward_same}
use Rattle.quotient.proofs.laws.forward_quotient_is_same.Goals as goal

pub returns : goal.returns
returns c = forward_same
