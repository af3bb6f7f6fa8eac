use Rattle.ba_format.proofs.FaultlessLemmas.{read_is_within}
use Rattle.ba_format.proofs.laws.what_is_read_is_within_the_limits.Goals as goal

pub returns : goal.returns
returns c = read_is_within
