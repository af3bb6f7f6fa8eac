use Rattle.look_round.proofs.SegmentLemmas.{forward_count}
use Rattle.look_round.proofs.sides.ForwardSide.moves.Goals as goal

pub returns : goal.returns
returns c = forward_count c.args.automaton.now c.args.state c.outgoing-out.result.begin c.outgoing-out.result.end c.outgoing-out.ensures.range
