use Rattle.bit_rel.proofs.ClosingLemmas.{closed_is_preorder}
use Rattle.direct_sim.proofs.simulation.preorder.Goals as goal

pub returns-clause-preorder : goal.returns-clause-preorder
returns-clause-preorder c = closed_is_preorder c.args.automaton.now.states c.in_ok-rel.rel c.close.new.self c.in_ok-rel.ensures.size c.close.ensures.closed
