use Rattle.std.proofs.Common.{arith}
use Rattle.look_round.proofs.IncomingLemmas.{backward_count, backward_few}
use Rattle.look_round.proofs.sides.BackwardSide.moves.Goals as goal

pub overflow_cast-result : goal.overflow_cast-result
overflow_cast-result c =
    let le = backward_few c.args.automaton.now c.args.state c.predecessors.result.now c.predecessors.ensures.list in
    let few = c.predecessors.ensures.valid.few in
    omega (arith, le, few)

pub returns : goal.returns
returns c = backward_count c.args.automaton.now c.args.state c.predecessors.result.now c.predecessors.ensures.list
