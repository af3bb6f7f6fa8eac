use Rattle.cert_text.proofs.AdmittedLemmas.{trailing_follows_text}
use Rattle.cert_text.proofs.CrossLemmas.{crosses}
use Rattle.cert_text.proofs.fault_laws.trailing_follows_a_cross_text.Goals as goal

pub returns : goal.returns
returns c = trailing_follows_text crosses
