use Rattle.useful_states.proofs.KeepLaws.{accepts_the_same}
use Rattle.useful_states.proofs.laws.kept_accepts_the_same.Goals as goal

pub returns : goal.returns
returns c = accepts_the_same
