use Rattle.std.proofs.Common.{arith}
use Rattle.auto_core.specs.Game.{Holds}
use Rattle.look_round.proofs.AnsweringLemmas.{one_forgotten, all_forgotten}
use Rattle.look_round.proofs.answer_rows.forget_lost.Goals as goal

pub loop-r-preserved : goal.loop-r-preserved
loop-r-preserved g c =
    let below = c.requires.below c.in-Some.r c.in-Some.ensures.found.here in (
      one_forgotten (g.S.Side.goes c.args.side.now c.args.automaton.now) (g.S.Side.matches c.args.side.now c.args.automaton.now) (Holds c.args.rel.now.pairs) c.args.lost.now c.args.table.now c.loop-r.table
          c.clear_arrivals.new.table c.args.labels c.args.width c.args.t c.loop-r.at c.in-Some.r c.loop-r.invariant.0 c.in-Some.ensures.found c.clear_arrivals.ensures.here c.clear_arrivals.ensures.others,
      omega arith,
    )

pub returns-clause-here : goal.returns-clause-here
returns-clause-here g c =
    all_forgotten (g.S.Side.goes c.args.side.now c.args.automaton.now) (g.S.Side.matches c.args.side.now c.args.automaton.now) (Holds c.args.rel.now.pairs) c.args.lost.now c.args.table.now c.loop-r.table c.args.labels
    c.args.width c.args.t c.loop-r.at c.loop-r.invariant.0 c.in_default.ensures.none
