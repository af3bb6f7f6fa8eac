use Rattle.cert_text.proofs.AdmittedLemmas.{fault_ends_admitted}
use Rattle.cert_text.proofs.CrossLemmas.{crosses}
use Rattle.cert_text.proofs.fault_laws.the_cross_fault_ends_the_admitted_lines.Goals as goal

pub returns : goal.returns
returns c = fault_ends_admitted crosses
