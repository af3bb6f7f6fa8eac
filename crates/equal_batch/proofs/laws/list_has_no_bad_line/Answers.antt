use Rattle.equal_batch.proofs.ListLemmas.{list_has_no_bad_line as law}
use Rattle.equal_batch.proofs.laws.list_has_no_bad_line.Goals as goal

pub returns : goal.returns
returns c = law
