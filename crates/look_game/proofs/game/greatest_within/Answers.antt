use Rattle.std.proofs.Common.{rules}
use Rattle.look_game.proofs.RowLemmas.{is_greatest_within}
use Rattle.look_game.proofs.AskedLemmas.{lost_at_once, lost_for_ever}
use Rattle.look_game.proofs.game.greatest_within.Goals as goal

pub returns-then-is_lost-clause-none : goal.returns-then-is_lost-clause-none
returns-then-is_lost-clause-none g c = λ _.
    lost_at_once (g.S.Side.goes c.args.side.now c.args.automaton.now) (g.S.Side.matches c.args.side.now c.args.automaton.now) c.args.look c.args.automaton.now.states c.args.first.pairs c.args.asked
    c.requires.stable (c.is_lost.ensures.0 c.if-is_lost.true)

pub returns-then-branch-clause-greatest : goal.returns-then-branch-clause-greatest
returns-then-branch-clause-greatest g c =
    is_greatest_within (g.S.Side.goes c.args.side.now c.args.automaton.now) (g.S.Side.matches c.args.side.now c.args.automaton.now) c.args.look
    c.args.automaton.now.states c.args.first c.narrow.new.rel c.requires.stable (search rules) (search rules)

pub returns-else-branch-clause-none : goal.returns-else-branch-clause-none
returns-else-branch-clause-none g c = λ _.
    lost_for_ever (g.S.Side.goes c.args.side.now c.args.automaton.now) (g.S.Side.matches c.args.side.now c.args.automaton.now) c.args.look
    c.args.automaton.now.states c.args.first c.narrow.new.rel c.args.asked c.requires.stable (search rules) (search rules)
