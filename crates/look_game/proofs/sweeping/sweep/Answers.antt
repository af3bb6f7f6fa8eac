use Rattle.std.proofs.Common.{◌∙◌}
use Rattle.look_game.proofs.TakingLemmas.{takes_then}
use Rattle.look_game.proofs.sweeping.sweep.Goals as goal

pub loop-i-preserved-then-visit_row : goal.loop-i-preserved-then-visit_row
loop-i-preserved-then-visit_row g c = (
  c.visit_row.ensures.scratch ∙ c.loop-i.invariant.0,
  takes_then (g.S.Side.goes c.args.side.now c.args.automaton.now) (g.S.Side.matches c.args.side.now c.args.automaton.now) c.args.look c.args.rel.now c.loop-i.rel c.visit_row.new.rel c.loop-i.invariant.1
      c.visit_row.ensures.takes,
  c.visit_row.ensures.ready,
)
