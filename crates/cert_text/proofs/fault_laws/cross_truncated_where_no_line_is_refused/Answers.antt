use Rattle.cert_text.proofs.AdmittedLemmas.{truncated_just_where}
use Rattle.cert_text.proofs.CrossLemmas.{crosses}
use Rattle.cert_text.proofs.fault_laws.cross_truncated_where_no_line_is_refused.Goals as goal

pub returns : goal.returns
returns c = truncated_just_where crosses
