use Rattle.antichain.proofs.MadeLemmas.{none_made}
use Rattle.antichain.proofs.sets.Sets.new.Goals as goal

pub returns : goal.returns
returns c = λ B S. none_made B S c.new.result.items c.new.ensures.items
