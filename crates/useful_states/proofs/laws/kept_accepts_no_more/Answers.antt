use Rattle.useful_states.proofs.KeepLaws.{accepts_no_more}
use Rattle.useful_states.proofs.laws.kept_accepts_no_more.Goals as goal

pub returns : goal.returns
returns c = accepts_no_more
