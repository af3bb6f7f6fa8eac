use Rattle.auto_laws.proofs.GreatestLemmas.{greatest_backward_is_there as law}
use Rattle.auto_laws.proofs.greatest.a_greatest_backward_relation_is_there.Goals as goal

pub returns : goal.returns
returns c = law
