use Rattle.auto_laws.proofs.GreatestLemmas.{greatest_across_is_there as law}
use Rattle.auto_laws.proofs.greatest.a_greatest_relation_across_is_there.Goals as goal

pub returns : goal.returns
returns c = law
