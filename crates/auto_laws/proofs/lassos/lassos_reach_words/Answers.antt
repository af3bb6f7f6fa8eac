use Rattle.auto_laws.proofs.AppliedGraphLemmas.{lassos_reach_words as law}
use Rattle.auto_laws.proofs.lassos.lassos_reach_words.Goals as goal

pub returns : goal.returns
returns c = law
