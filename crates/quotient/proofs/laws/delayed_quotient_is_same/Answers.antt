use Rattle.quotient.proofs.DelayedLaws.{delayed_quotient_is_same as law}
use Rattle.quotient.proofs.laws.delayed_quotient_is_same.Goals as goal

pub returns : goal.returns
returns c = law
