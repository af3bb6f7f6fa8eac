use Rattle.std.proofs.Common.{◌*◌, ◌+◌, ℕ, length, sym, ap, ◌∙◌, subst}
use Rattle.auto_core.specs.Rows.{HasBit}
use Rattle.auto_core.specs.Game.{Holds}
use Rattle.graph_rows.proofs.PrintLemmas.{own_more, unmarked}
use Rattle.graph_rows.proofs.covering.mark_own_answers.Goals as goal
use Rattle.graph_rows.proofs.covering.mark_own_answers.Goals.{then-has_bit+then-is_own_answer, then-has_bit+else-is_own_answer, else-has_bit}

pub loop-j-init : goal.loop-j-init
loop-j-init c = (λ i bit. absurd (unmarked i (subst (λ l. HasBit l i) c.requires.none bit)), ap length c.requires.none)

pub loop-j-preserved : goal.loop-j-preserved
loop-j-preserved c =
    let P : ℕ → Type 0 = λ i. Holds c.args.order.now.pairs (c.args.word * 64 + i) (c.args.word * 64 + i) in
    elim c.if-has_bit.branch [
      | then-has_bit+then-is_own_answer w ↦ (
        subst (λ l. (i : ℕ) → HasBit l i → P i) (sym w.row-is)
            (own_more P c.loop-j.row w.set_bit.new.row c.loop-j.j (w.is_own_answer.ensures w.if-is_own_answer.true) w.set_bit.ensures.others c.loop-j.invariant.0),
        c.if-has_bit.auto.row ∙ c.loop-j.invariant.1,
      )
      | then-has_bit+else-is_own_answer w ↦ (subst (λ l. (i : ℕ) → HasBit l i → P i) (sym w.row-is) c.loop-j.invariant.0, c.if-has_bit.auto.row ∙ c.loop-j.invariant.1)
      | else-has_bit w ↦ (subst (λ l. (i : ℕ) → HasBit l i → P i) (sym w.row-is) c.loop-j.invariant.0, c.if-has_bit.auto.row ∙ c.loop-j.invariant.1)
    ]

pub returns : goal.returns
returns c = λ x is j bit. c.loop-j.invariant.0 j (subst (λ l. HasBit l j) (sym is) bit)
