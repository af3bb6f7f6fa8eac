use Rattle.cert_text.specs.Grammar.{reading}
use Rattle.cert_text.proofs.TextLemmas.{one_fault}
use Rattle.cert_text.proofs.fault_laws.there_is_one_first_fault.Goals as goal

pub returns : goal.returns
returns c = λ bytes. one_fault (reading bytes)
