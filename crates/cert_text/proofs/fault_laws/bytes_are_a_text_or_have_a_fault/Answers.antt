use Rattle.cert_text.proofs.TextLemmas.{is_text_or_has_fault}
use Rattle.cert_text.proofs.CertLemmas.{certs}
use Rattle.cert_text.proofs.fault_laws.bytes_are_a_text_or_have_a_fault.Goals as goal

pub returns : goal.returns
returns c = is_text_or_has_fault certs
