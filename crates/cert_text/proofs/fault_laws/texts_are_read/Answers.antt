use Rattle.cert_text.proofs.TextLemmas.{is_read}
use Rattle.cert_text.proofs.CertLemmas.{certs}
use Rattle.cert_text.proofs.fault_laws.texts_are_read.Goals as goal

pub returns : goal.returns
returns c = is_read certs
