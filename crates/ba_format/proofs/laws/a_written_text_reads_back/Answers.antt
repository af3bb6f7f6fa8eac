use Rattle.ba_format.proofs.BackLemmas.{written_reads_back}
use Rattle.ba_format.proofs.laws.a_written_text_reads_back.Goals as goal

pub returns : goal.returns
returns c = written_reads_back
