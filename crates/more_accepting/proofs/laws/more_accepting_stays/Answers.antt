use Rattle.more_accepting.proofs.MoreLaws.{more_stays}
use Rattle.more_accepting.proofs.laws.more_accepting_stays.Goals as goal

pub returns : goal.returns
returns c = more_stays
