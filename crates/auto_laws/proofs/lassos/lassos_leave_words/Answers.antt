use Rattle.auto_laws.proofs.AppliedGraphLemmas.{lassos_leave_words as law}
use Rattle.auto_laws.proofs.lassos.lassos_leave_words.Goals as goal

pub returns : goal.returns
returns c = law
