use Rattle.ba_format.proofs.LawLemmas.{reads_as_one}
use Rattle.ba_format.proofs.laws.a_text_reads_as_one.Goals as goal

pub returns : goal.returns
returns c = reads_as_one
