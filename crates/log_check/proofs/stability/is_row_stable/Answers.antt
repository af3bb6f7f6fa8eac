use Rattle.std.proofs.Common.{◌≡◌, true, refl, ◌∙◌, arith, rules}
use Rattle.auto_core.specs.Game.{Holds}
use Rattle.log_check.specs.Stability.{IsPairStable}
use Rattle.log_check.proofs.BlockLemmas.{below_more}
use Rattle.log_check.proofs.stability.is_row_stable.Goals as goal

pub loop-q-preserved : goal.loop-q-preserved
loop-q-preserved g c =
    let is : c.is_pair_stable.result ≡ true = search rules in (
      below_more (IsPairStable (g.S.Side.goes c.args.side.now c.args.automaton.now) (g.S.Side.matches c.args.side.now c.args.automaton.now) c.args.look (Holds c.args.rel.now.pairs) c.args.p)
          c.loop-q.q c.loop-q.invariant.0 (c.is_pair_stable.ensures.told.0 is),
      c.is_pair_stable.ensures.scratch ∙ c.loop-q.invariant.1,
    )

pub returns-clause-told : goal.returns-clause-told
returns-clause-told g c = (
  λ told. λ q q_in. c.loop-q.invariant.0 q (omega (arith, c.states-q-end.ensures.count)),
  λ stable. refl,
)
