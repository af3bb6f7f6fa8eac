use Rattle.std.proofs.Common.{◌↔◌, IsTrue}
use Rattle.auto_core.specs.Game.{Holds}
use Rattle.delayed_laws.specs.Greatest.{IsDelayedSimulated}
use Rattle.delayed_across.proofs.GreatestLemmas.{IsFull, full_board, at_initial, decided, simulated_includes}
use Rattle.delayed_across.proofs.deciding.is_delayed.Goals as goal
use Rattle.delayed_across.proofs.deciding.is_delayed.Goals.{After-drop-ranks}

told : (c : After-drop-ranks) → IsTrue c.has_bit.result ↔ IsDelayedSimulated c.args.first.now c.args.second.now
told c =
    let A = c.args.first.now in
    let B = c.args.second.now in
    let S = c.play.new.board in
    let full : IsFull A B c.in_ok-board.board = full_board A B c.in_ok-board.board c.states.result c.states-2.result c.states.ensures.count c.states-2.ensures.count c.in_ok-board.ensures.places c.in_ok-board.ensures.states c.in_ok-board.ensures.pairs in
    let decides = decided A B c.states.ensures.valid c.states-2.ensures.valid c.in_ok-board.board S c.in_ok-_ranks._ranks.items full c.in_ok-_ranks.ensures in
    let bit : IsTrue c.has_bit.result ↔ Holds S.pairs A.initial B.initial = at_initial A B S c.row.result.now c.initial.result c.initial-2.result c.has_bit.result c.initial.ensures.state c.initial-2.ensures.state c.row.ensures.bits c.has_bit.ensures in
    (λ t. decides.0 (bit.0 t), λ s. bit.1 (decides.1 s))

pub returns-clause-told : goal.returns-clause-told
returns-clause-told c = told (goal.at.returns-clause-told c).After-drop-ranks

pub returns-clause-included : goal.returns-clause-included
returns-clause-included c = λ yes. simulated_includes c.args.first.now c.args.second.now c.states-2.ensures.valid ((told (goal.at.returns-clause-included c).After-drop-ranks).0 yes)
