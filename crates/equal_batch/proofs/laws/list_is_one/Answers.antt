use Rattle.equal_batch.proofs.ListLemmas.{list_is_one as law}
use Rattle.equal_batch.proofs.laws.list_is_one.Goals as goal

pub returns : goal.returns
returns c = law
