use Rattle.std.proofs.Common.{ℕ, ◌≡◌, true, false, refl, sym, ◌∙◌, subst, arith, rules}
use Rattle.std.proofs.lemmas.Bool.{false≢true}
use Rattle.auto_core.specs.Game.{Holds, ArePairsBelow}
use Rattle.log_check.specs.Stability.{IsRowStable}
use Rattle.log_check.proofs.BlockLemmas.{below_more, stable_from_rows}
use Rattle.log_check.proofs.stability.is_stable.Goals as goal

pub returns-then-not-is_row_stable : goal.returns-then-not-is_row_stable
returns-then-not-is_row_stable g c =
    let is : c.is_row_stable.result ≡ false = search rules in (
      λ told. absurd (false≢true told),
      λ stable. sym is ∙ c.is_row_stable.ensures.told.1 (λ q q_in. λ holds. stable c.loop-p.p q holds),
    )

pub loop-p-preserved : goal.loop-p-preserved
loop-p-preserved g c =
    let is : c.is_row_stable.result ≡ true = search rules in (
      below_more (IsRowStable (g.S.Side.goes c.args.side.now c.args.automaton.now) (g.S.Side.matches c.args.side.now c.args.automaton.now) c.args.look (Holds c.args.rel.now.pairs) c.args.automaton.now.states)
          c.loop-p.p c.loop-p.invariant.0 (c.is_row_stable.ensures.told.0 is),
      c.is_row_stable.ensures.scratch ∙ c.loop-p.invariant.1,
    )

pub returns : goal.returns
returns g c =
    let n : ℕ = c.args.automaton.now.states in
    let below : ArePairsBelow n n c.args.rel.now.pairs = subst (λ m. ArePairsBelow m m c.args.rel.now.pairs) c.requires.equal c.size-p-end.ensures.valid.in_range in (
      λ told. stable_from_rows (g.S.Side.goes c.args.side.now c.args.automaton.now) (g.S.Side.matches c.args.side.now c.args.automaton.now) c.args.look c.args.rel.now.pairs n below
          (λ p p_in. c.loop-p.invariant.0 p (omega (arith, c.size-p-end.ensures.count, c.requires.equal))),
      λ stable. refl,
    )
