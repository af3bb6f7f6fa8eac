use Rattle.equal_batch.proofs.ListLemmas.{text_without_a_bad_line_is_a_lists as law}
use Rattle.equal_batch.proofs.laws.text_without_a_bad_line_is_a_lists.Goals as goal

pub returns : goal.returns
returns c = law
