use Rattle.auto_laws.proofs.DelayedLemmas.{greatest_delayed_is_there as law}
use Rattle.auto_laws.proofs.greatest.a_greatest_delayed_relation_is_there.Goals as goal

pub returns : goal.returns
returns c = law
