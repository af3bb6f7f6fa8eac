use Rattle.look_game.proofs.TakingLemmas.{takes_then}
use Rattle.look_game.proofs.game.narrow.Goals as goal

pub returns-clause-takes : goal.returns-clause-takes
returns-clause-takes g c =
    takes_then (g.S.Side.goes c.args.side.now c.args.automaton.now) (g.S.Side.matches c.args.side.now c.args.automaton.now) c.args.look
    c.args.rel.now c.sweep_often.new.rel c.settle.new.rel c.sweep_often.ensures.takes c.settle.ensures.takes
