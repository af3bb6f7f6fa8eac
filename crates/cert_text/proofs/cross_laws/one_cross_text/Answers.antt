use Rattle.cert_text.proofs.CrossTextLemmas.{one_text}
use Rattle.cert_text.proofs.cross_laws.one_cross_text.Goals as goal

pub returns : goal.returns
returns c = one_text
