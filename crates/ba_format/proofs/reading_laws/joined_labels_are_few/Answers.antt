use Rattle.ba_format.proofs.JoinedReadLemmas.{joined_labels_are_few as law}
use Rattle.ba_format.proofs.reading_laws.joined_labels_are_few.Goals as goal

pub returns : goal.returns
returns c = law
