use Rattle.cert_text.proofs.TextLemmas.{is_read}
use Rattle.cert_text.proofs.CrossLemmas.{crosses}
use Rattle.cert_text.proofs.fault_laws.cross_texts_are_read.Goals as goal

pub returns : goal.returns
returns c = is_read crosses
