use Rattle.cert_text.proofs.PlaceLemmas.{begin_none}
use Rattle.cert_text.proofs.CrossLemmas.{crosses}
use Rattle.cert_text.proofs.fault_laws.lines_up_to_the_fault_begin_no_cross_text.Goals as goal

pub returns : goal.returns
returns c = begin_none crosses
