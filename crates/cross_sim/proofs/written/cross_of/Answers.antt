use Rattle.cross_sim.proofs.CrossLemmas.{held_side_by_side}
use Rattle.cross_sim.proofs.written.cross_of.Goals as goal

pub cross_within-requires-clause-greatest : goal.cross_within-requires-clause-greatest
cross_within-requires-clause-greatest c =
    let pair = c.args.pair.now in
    held_side_by_side pair.first pair.second c.args.look c.args.rel.now.pairs c.requires.greatest
