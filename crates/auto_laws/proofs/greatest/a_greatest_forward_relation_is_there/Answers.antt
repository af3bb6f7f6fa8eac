use Rattle.auto_laws.proofs.GreatestLemmas.{greatest_forward_is_there as law}
use Rattle.auto_laws.proofs.greatest.a_greatest_forward_relation_is_there.Goals as goal

pub returns : goal.returns
returns c = law
