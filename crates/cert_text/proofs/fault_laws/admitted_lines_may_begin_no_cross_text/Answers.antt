use Rattle.cert_text.proofs.EndlessLemmas.{cross_endless_is_admitted as law}
use Rattle.cert_text.proofs.fault_laws.admitted_lines_may_begin_no_cross_text.Goals as goal

pub returns : goal.returns
returns c = law
