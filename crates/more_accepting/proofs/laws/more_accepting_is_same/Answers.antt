use Rattle.more_accepting.proofs.MoreLaws.{more_same}
use Rattle.more_accepting.proofs.laws.more_accepting_is_same.Goals as goal

pub returns : goal.returns
returns c = more_same
