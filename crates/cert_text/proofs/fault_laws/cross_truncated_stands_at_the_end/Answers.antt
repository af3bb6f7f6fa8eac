use Rattle.cert_text.proofs.AdmittedLemmas.{truncated_at_the_end}
use Rattle.cert_text.proofs.CrossLemmas.{crosses}
use Rattle.cert_text.proofs.fault_laws.cross_truncated_stands_at_the_end.Goals as goal

pub returns : goal.returns
returns c = truncated_at_the_end crosses
