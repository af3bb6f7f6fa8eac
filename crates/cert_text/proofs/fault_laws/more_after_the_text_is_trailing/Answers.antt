use Rattle.cert_text.proofs.EndLemmas.{more_is_trailing}
use Rattle.cert_text.proofs.CertLemmas.{certs}
use Rattle.cert_text.proofs.fault_laws.more_after_the_text_is_trailing.Goals as goal

pub returns : goal.returns
returns c = more_is_trailing certs
