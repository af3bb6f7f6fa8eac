use Rattle.cert_text.proofs.AdmittedLemmas.{own_lines_are_admitted}
use Rattle.cert_text.proofs.CrossLemmas.{crosses}
use Rattle.cert_text.proofs.fault_laws.a_cross_relations_lines_are_admitted.Goals as goal

pub returns : goal.returns
returns c = own_lines_are_admitted crosses
