use Rattle.ba_format.proofs.JoinedReadLemmas.{read_automata_join as law}
use Rattle.ba_format.proofs.reading_laws.two_read_automata_have_a_join.Goals as goal

pub returns : goal.returns
returns c = law
