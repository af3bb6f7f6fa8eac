use Rattle.ba_format.proofs.WrittenLemmas.{written_reads}
use Rattle.ba_format.proofs.laws.a_written_text_reads.Goals as goal

pub returns : goal.returns
returns c = written_reads
