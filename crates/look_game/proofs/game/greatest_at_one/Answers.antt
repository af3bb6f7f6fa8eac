use Rattle.look_game.proofs.TakingLemmas.{far_has_stable}
use Rattle.look_game.proofs.game.greatest_at_one.Goals as goal

pub found-requires-clause-stable : goal.found-requires-clause-stable
found-requires-clause-stable g c =
    far_has_stable (g.S.Side.goes c.args.side.now c.args.automaton.now) (g.S.Side.matches c.args.side.now c.args.automaton.now) c.args.look c.args.automaton.now.states c.args.wider.pairs c.requires.look c.requires.wider
