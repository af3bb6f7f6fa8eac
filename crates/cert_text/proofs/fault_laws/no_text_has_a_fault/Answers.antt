use Rattle.cert_text.proofs.TextLemmas.{has_no_fault}
use Rattle.cert_text.proofs.CertLemmas.{certs}
use Rattle.cert_text.proofs.fault_laws.no_text_has_a_fault.Goals as goal

pub returns : goal.returns
returns c = has_no_fault certs
