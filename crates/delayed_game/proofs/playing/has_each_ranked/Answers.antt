use Rattle.std.proofs.Common.{inl, inr, sym, subst, arith}
use Rattle.std.proofs.lemmas.Bool.{cases_eq}
use Rattle.auto_core.specs.Game.{Holds}
use Rattle.delayed_game.specs.Settling.{HasSomeRank}
use Rattle.delayed_game.proofs.playing.has_each_ranked.Goals as goal

pub loop-p-preserved : goal.loop-p-preserved
loop-p-preserved c = λ p q p_in q_in ranked.
    let R = c.args.board.now in
    elim (cases_eq p c.loop-p.p) [
      | inl e ↦ subst (λ x. Holds R.pairs x q) (sym e) (c.has_ranked.ensures c.if-not-has_ranked.false q q_in (subst (λ x. HasSomeRank c.args.ranks.now R.states x q) e ranked))
      | inr apart ↦ c.loop-p.invariant p q (omega arith) q_in ranked
    ]
