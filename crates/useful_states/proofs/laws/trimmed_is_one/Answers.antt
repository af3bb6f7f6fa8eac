use Rattle.useful_states.proofs.KeepLaws.{trimmed_one}
use Rattle.useful_states.proofs.laws.trimmed_is_one.Goals as goal

pub returns : goal.returns
returns c = trimmed_one
