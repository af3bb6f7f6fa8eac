use Rattle.look_game.proofs.RowLemmas.{bound_has_stable}
use Rattle.look_game.proofs.game.greatest.Goals as goal

pub found-requires-clause-stable : goal.found-requires-clause-stable
found-requires-clause-stable g c =
    bound_has_stable (g.S.Side.goes c.args.side.now c.args.automaton.now) (g.S.Side.matches c.args.side.now c.args.automaton.now) c.args.look c.args.automaton.now.states c.in_ok-first.first
    c.requires.look_from c.in_ok-first.ensures
