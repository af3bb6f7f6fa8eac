use Rattle.ba_format.proofs.JoinedBackLemmas.{written_joins as law}
use Rattle.ba_format.proofs.reading_laws.a_written_automaton_joins_with_what_its_text_reads_as.Goals as goal

pub returns : goal.returns
returns c = law
