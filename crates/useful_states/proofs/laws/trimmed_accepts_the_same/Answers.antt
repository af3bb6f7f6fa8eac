use Rattle.useful_states.proofs.KeepLaws.{trimmed_the_same}
use Rattle.useful_states.proofs.laws.trimmed_accepts_the_same.Goals as goal

pub returns : goal.returns
returns c = trimmed_the_same
