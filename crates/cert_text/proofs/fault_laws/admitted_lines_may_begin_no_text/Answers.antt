use Rattle.cert_text.proofs.EndlessLemmas.{endless_is_admitted as law}
use Rattle.cert_text.proofs.fault_laws.admitted_lines_may_begin_no_text.Goals as goal

pub returns : goal.returns
returns c = law
