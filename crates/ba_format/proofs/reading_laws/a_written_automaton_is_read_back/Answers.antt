use Rattle.ba_format.proofs.JoinedBackLemmas.{written_is_there as law}
use Rattle.ba_format.proofs.reading_laws.a_written_automaton_is_read_back.Goals as goal

pub returns : goal.returns
returns c = law
