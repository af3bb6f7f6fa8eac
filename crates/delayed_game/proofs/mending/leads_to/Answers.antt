use Rattle.std.proofs.Common.{inl, inr, List, get_or, refl, sym, ◌∙◌, subst, arith}
use Rattle.std.proofs.lemmas.Bool.{cases_eq, false≢true}
use Rattle.auto_core.proofs.MoveLemmas.{successor_moves, moves_in_successors}
use Rattle.auto_core.specs.Automaton.{trans, trans_at}
use Rattle.auto_core.specs.Rows.{HasBit}
use Rattle.auto_core.specs.declared.parts.Trans.{Trans}
use Rattle.delayed_game.proofs.mending.leads_to.Goals as goal

pub loop-t-preserved : goal.loop-t-preserved
loop-t-preserved c = λ u from lt bit.
    let A = c.args.automaton.now in
    let ends = c.args.ends.now in
    elim (cases_eq u c.loop-t.t) [
      | inl e ↦
          let here : HasBit ends (trans_at A c.loop-t.t).target = subst (λ x. HasBit ends (trans_at A x).target) e bit in
          let Q : List Trans → Type 0 = λ ts. HasBit ends (get_or ts c.loop-t.t (trans 0 0 0)).target in
          false≢true (sym c.if-has_bit.false ∙ (c.has_bit.ensures ∙ subst Q (sym c.transitions.ensures.list) here))
      | inr apart ↦ c.loop-t.invariant u from (omega arith) bit
    ]

pub returns-then-has_bit : goal.returns-then-has_bit
returns-then-has_bit c =
    let A = c.args.automaton.now in
    let ends = c.args.ends.now in
    let Q : List Trans → Type 0 = λ ts. HasBit ends (get_or ts c.loop-t.t (trans 0 0 0)).target in
    let here : HasBit ends (trans_at A c.loop-t.t).target = subst Q c.transitions.ensures.list (sym c.has_bit.ensures ∙ c.if-has_bit.true) in
    let move = successor_moves A c.args.state c.args.label c.successors-span.result.begin c.successors-span.result.end c.successors-span.ensures.range c.loop-t.t c.loop-t.auto.t c.loop-t-test.true in
    ((λ t. ((trans_at A c.loop-t.t).target, move, here)), λ answer. refl)

pub returns : goal.returns
returns c =
    let A = c.args.automaton.now in
    let ends = c.args.ends.now in (
      (λ t. absurd (false≢true t)),
      λ answer.
          let (t, from, below, is) = moves_in_successors A c.args.state c.args.label c.successors-span.result.begin c.successors-span.result.end c.successors-span.ensures.range answer.0 answer.1 in
          absurd (c.loop-t.invariant t from (omega (arith, below, c.loop-t-test.false)) (subst (λ q. HasBit ends q) (sym is) answer.2)),
    )
