use Rattle.reduce_loop.proofs.SameLemmas.{same_by_texts_renumbers as law}
use Rattle.reduce_loop.proofs.text_laws.the_same_by_texts_is_renumbered.Goals as goal

pub returns : goal.returns
returns c = law
