use Rattle.std.proofs.Common.{inl, refl, ◌∙◌, arith}
use Rattle.look_game.proofs.TakingLemmas.{takes_none, takes_then}
use Rattle.look_game.proofs.NearLemmas.{others_begin, others_again}
use Rattle.look_game.proofs.game.settle.Goals as goal

pub passes-init : goal.passes-init
passes-init g c =
    let M = g.S.Side.goes c.args.side.now c.args.automaton.now in
    let ok = g.S.Side.matches c.args.side.now c.args.automaton.now in
    (refl, takes_none M ok c.args.look c.args.rel.now c.size.ensures.valid, others_begin M ok c.args.look c.size.result c.args.rel.now c.mark_below.new.row c.size.ensures.valid (omega (arith, c.size.ensures.count)) (λ p p_in. (c.mark_below.ensures p).1 (inl p_in)), c.requires.ready)

pub passes-preserved : goal.passes-preserved
passes-preserved g c =
    let M = g.S.Side.goes c.args.side.now c.args.automaton.now in
    let ok = g.S.Side.matches c.args.side.now c.args.automaton.now in
    let takes = takes_then M ok c.args.look c.args.rel.now c.passes.rel c.pass.new.rel c.passes.invariant.1 c.pass.ensures.takes in (
      c.pass.ensures.scratch ∙ c.passes.invariant.0,
      takes,
      others_again M ok c.args.look c.args.automaton.now.states c.pass.new.rel c.pass.new.changed c.mark_near.new.near takes.valid (takes.size ∙ c.requires.equal) c.mark_near.ensures c.pass.ensures.apart,
      c.pass.ensures.ready,
    )

pub returns-clause-takes : goal.returns-clause-takes
returns-clause-takes g c =
    takes_then (g.S.Side.goes c.args.side.now c.args.automaton.now) (g.S.Side.matches c.args.side.now c.args.automaton.now) c.args.look c.args.rel.now c.passes.rel c.pass.new.rel c.passes.invariant.1
    c.pass.ensures.takes

pub returns-then-is_lost-clause-takes : goal.returns-then-is_lost-clause-takes
returns-then-is_lost-clause-takes g c =
    takes_then (g.S.Side.goes c.args.side.now c.args.automaton.now) (g.S.Side.matches c.args.side.now c.args.automaton.now) c.args.look c.args.rel.now c.passes.rel c.pass.new.rel c.passes.invariant.1
    c.pass.ensures.takes
