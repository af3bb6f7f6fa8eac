use Rattle.reduce_loop.proofs.SameLemmas.{same_by_texts_is_written as law}
use Rattle.reduce_loop.proofs.text_laws.the_same_by_texts_is_written_the_same.Goals as goal

pub returns : goal.returns
returns c = law
