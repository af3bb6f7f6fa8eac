use Rattle.reduce_loop.proofs.SameLemmas.{same_by_texts_is_same as law}
use Rattle.reduce_loop.proofs.text_laws.the_same_by_texts_and_labels_is_the_same.Goals as goal

pub returns : goal.returns
returns c = law
