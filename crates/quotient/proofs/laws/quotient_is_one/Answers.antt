use Rattle.quotient.proofs.MergeLaws.{quotient_one}
use Rattle.quotient.proofs.laws.quotient_is_one.Goals as goal

pub returns : goal.returns
returns c = quotient_one
