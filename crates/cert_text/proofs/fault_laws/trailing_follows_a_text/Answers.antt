use Rattle.cert_text.proofs.AdmittedLemmas.{trailing_follows_text}
use Rattle.cert_text.proofs.CertLemmas.{certs}
use Rattle.cert_text.proofs.fault_laws.trailing_follows_a_text.Goals as goal

pub returns : goal.returns
returns c = trailing_follows_text certs
