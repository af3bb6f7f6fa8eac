use Rattle.std.proofs.Common.{◌∙◌}
use Rattle.look_game.proofs.TakingLemmas.{takes_then}
use Rattle.look_game.proofs.RowLemmas.{is_greatest}
use Rattle.look_game.proofs.rounds.greatest_by_rounds.Goals as goal

pub passes-preserved : goal.passes-preserved
passes-preserved g c = (
  c.pass.ensures.scratch ∙ c.passes.invariant.0,
  takes_then (g.S.Side.goes c.args.side.now c.args.automaton.now) (g.S.Side.matches c.args.side.now c.args.automaton.now) c.args.look c.in_ok-rel.rel c.passes.rel c.pass.new.rel c.passes.invariant.1
      c.pass.ensures.takes,
)

pub returns-clause-greatest : goal.returns-clause-greatest
returns-clause-greatest g c =
    let M = g.S.Side.goes c.args.side.now c.args.automaton.now in
    let ok = g.S.Side.matches c.args.side.now c.args.automaton.now in
    is_greatest M ok c.args.look c.args.automaton.now.states c.in_ok-rel.rel c.pass.new.rel c.in_ok-rel.ensures
    (takes_then M ok c.args.look c.in_ok-rel.rel c.passes.rel c.pass.new.rel c.passes.invariant.1 c.pass.ensures.takes) (c.pass.ensures.rounds c.passes-test.false)
