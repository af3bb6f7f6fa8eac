use Rattle.std.proofs.Common.{get_or, ap, ◌∙◌}
use Rattle.auto_core.specs.Automaton.{trans}
use Rattle.look_round.specs.Sides.{turned_move}
use Rattle.look_round.proofs.IncomingLemmas.{backward_nth}
use Rattle.look_round.proofs.sides.BackwardSide.nth.Goals as goal

pub bounds-predecessors-at : goal.bounds-predecessors-at
bounds-predecessors-at c =
    (backward_nth c.args.automaton.now c.args.state c.predecessors.result.now c.args.at c.predecessors.ensures.list c.requires.place).0

pub returns-clause-item : goal.returns-clause-item
returns-clause-item c =
    let at = backward_nth c.args.automaton.now c.args.state c.predecessors.result.now c.args.at c.predecessors.ensures.list c.requires.place in
    ap (λ ts. turned_move (get_or ts (get_or c.predecessors.result.now c.args.at 0) (trans 0 0 0))) c.transitions.ensures.list ∙ at.2
