use Rattle.cert_text.proofs.AdmittedLemmas.{header_in_line_one}
use Rattle.cert_text.proofs.CertLemmas.{certs}
use Rattle.cert_text.proofs.fault_laws.header_stands_in_line_one.Goals as goal

pub returns : goal.returns
returns c = header_in_line_one certs
