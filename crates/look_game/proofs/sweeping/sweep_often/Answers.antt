use Rattle.std.proofs.Common.{◌∙◌}
use Rattle.look_game.proofs.TakingLemmas.{takes_then}
use Rattle.look_game.proofs.sweeping.sweep_often.Goals as goal

pub returns-then-not-sweep-clause-takes : goal.returns-then-not-sweep-clause-takes
returns-then-not-sweep-clause-takes g c =
    takes_then (g.S.Side.goes c.args.side.now c.args.automaton.now) (g.S.Side.matches c.args.side.now c.args.automaton.now) c.args.look c.args.rel.now c.loop-time.rel c.sweep.new.rel c.loop-time.invariant.1
    c.sweep.ensures.takes

pub loop-time-preserved : goal.loop-time-preserved
loop-time-preserved g c = (
  c.sweep.ensures.scratch ∙ c.loop-time.invariant.0,
  takes_then (g.S.Side.goes c.args.side.now c.args.automaton.now) (g.S.Side.matches c.args.side.now c.args.automaton.now) c.args.look c.args.rel.now c.loop-time.rel c.sweep.new.rel c.loop-time.invariant.1
      c.sweep.ensures.takes,
  c.sweep.ensures.ready,
)
