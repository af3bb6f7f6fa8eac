use Rattle.std.proofs.Common.{sym, subst, arith}
use Rattle.auto_core.specs.Game.{Holds}
use Rattle.delayed_game.specs.Settling.{HasSomeRank}
use Rattle.delayed_game.proofs.CanLemmas.{least_stays}
use Rattle.delayed_game.proofs.playing.rank_anew.Goals as goal

pub returns-then-has_each_ranked : goal.returns-then-has_each_ranked
returns-then-has_each_ranked c =
    let L = c.args.places.now in
    let A = c.args.automaton.now in
    let R = c.args.board.now in
    let (S, inside, within, least) = c.requires.ranks in
    least_stays L A (Holds S) (Holds R.pairs) c.args.ranks.now inside within
    (λ p q p_in q_in ranked. c.has_each_ranked.ensures c.if-has_each_ranked.true p q (omega (arith, c.requires.rows)) (omega (arith, c.requires.columns))
    (subst (λ n. HasSomeRank c.args.ranks.now n p q) (sym c.requires.columns) ranked))
    least
