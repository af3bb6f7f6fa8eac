use Rattle.cert_text.proofs.AdmittedLemmas.{truncated_just_where}
use Rattle.cert_text.proofs.CertLemmas.{certs}
use Rattle.cert_text.proofs.fault_laws.truncated_where_no_line_is_refused.Goals as goal

pub returns : goal.returns
returns c = truncated_just_where certs
