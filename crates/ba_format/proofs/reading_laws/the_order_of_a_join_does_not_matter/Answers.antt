use Rattle.ba_format.proofs.TurnedLemmas.{join_order_does_not_matter as law}
use Rattle.ba_format.proofs.reading_laws.the_order_of_a_join_does_not_matter.Goals as goal

pub returns : goal.returns
returns c = law
