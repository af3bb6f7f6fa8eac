use Rattle.cert_text.specs.CrossGrammar.{cross_reading}
use Rattle.cert_text.proofs.TextLemmas.{one_fault}
use Rattle.cert_text.proofs.fault_laws.there_is_one_first_cross_fault.Goals as goal

pub returns : goal.returns
returns c = λ bytes. one_fault (cross_reading bytes)
