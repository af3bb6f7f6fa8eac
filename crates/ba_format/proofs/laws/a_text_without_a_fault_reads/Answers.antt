use Rattle.ba_format.proofs.FaultlessLemmas.{faultless_reads}
use Rattle.ba_format.proofs.laws.a_text_without_a_fault_reads.Goals as goal

pub returns : goal.returns
returns c = faultless_reads
