use Rattle.ba_format.proofs.JoinedReadLemmas.{join_is_over_labels as law}
use Rattle.ba_format.proofs.reading_laws.a_join_is_over_the_joined_labels.Goals as goal

pub returns : goal.returns
returns c = law
