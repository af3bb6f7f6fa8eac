use Rattle.std.proofs.Math.Facts.{Fits-lt-pow}
use Rattle.cert_check.proofs.keys.note_fit.Goals as goal

pub returns : goal.returns
returns c = λ k. Fits-lt-pow (c.type_inv.words k)
