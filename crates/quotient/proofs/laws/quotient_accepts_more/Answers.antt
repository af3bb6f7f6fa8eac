use Rattle.quotient.proofs.MergeLaws.{accepts_more}
use Rattle.quotient.proofs.laws.quotient_accepts_more.Goals as goal

pub returns : goal.returns
returns c = accepts_more
