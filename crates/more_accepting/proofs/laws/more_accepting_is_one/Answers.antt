use Rattle.more_accepting.proofs.MoreLaws.{more_one}
use Rattle.more_accepting.proofs.laws.more_accepting_is_one.Goals as goal

pub returns : goal.returns
returns c = more_one
