use Rattle.cert_text.proofs.Theorem.{one_text}
use Rattle.cert_text.proofs.laws.one_text.Goals as goal

pub returns : goal.returns
returns c = one_text
