use Rattle.auto_core.proofs.MoveLemmas.{move_in_range}
use Rattle.delayed_game.proofs.SettleLemmas.{takes_none, takes_then, all_answered}
use Rattle.delayed_game.proofs.settling.settle.Goals as goal

pub passes-init : goal.passes-init
passes-init c = (takes_none c.args.places.now c.args.automaton.now c.args.board.now c.requires.valid, c.requires.besides, c.requires.kept)

pub passes-preserved : goal.passes-preserved
passes-preserved c = (takes_then c.args.places.now c.args.automaton.now c.args.board.now c.passes.board c.pass.new.board c.passes.invariant.0 c.pass.ensures.takes, c.pass.ensures.besides, c.pass.ensures.kept)

pub returns-clause-takes : goal.returns-clause-takes
returns-clause-takes c = takes_then c.args.places.now c.args.automaton.now c.args.board.now c.passes.board c.pass.new.board c.passes.invariant.0 c.pass.ensures.takes

pub returns-clause-answered : goal.returns-clause-answered
returns-clause-answered c =
    let L = c.args.places.now in
    all_answered L c.args.automaton.now c.pass.new.board c.pass.new.marks (c.pass.ensures.none c.passes-test.false) c.pass.ensures.besides (λ p a p' move. (move_in_range L c.requires.over p a p' move).1)
