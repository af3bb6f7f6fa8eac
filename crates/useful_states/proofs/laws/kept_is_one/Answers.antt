use Rattle.useful_states.proofs.KeepLaws.{kept_one}
use Rattle.useful_states.proofs.laws.kept_is_one.Goals as goal

pub returns : goal.returns
returns c = kept_one
