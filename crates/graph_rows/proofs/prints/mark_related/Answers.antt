use Rattle.std.proofs.Common.{◌≡◌, ℕ, ◌+◌, ◌<◌, false, sym, ◌∙◌, subst, arith}
use Rattle.auto_core.specs.Game.{Holds}
use Rattle.auto_core.specs.Rows.{HasBit, bit_of}
use Rattle.graph_rows.proofs.PrintLemmas.{own_more, rest_kept, rest_set}
use Rattle.graph_rows.proofs.prints.mark_related.Goals as goal
use Rattle.graph_rows.proofs.prints.mark_related.Goals.{then-may_relate, else-may_relate}

pub loop-q-preserved : goal.loop-q-preserved
loop-q-preserved c =
    let n : ℕ = c.args.order.now.size in
    let q : ℕ = c.loop-q.q in
    let inv = c.loop-q.invariant in
    let within : q < n = omega (arith, c.loop-q-test.true, c.size-q-end.ensures.count) in
    let P : ℕ → Type 0 = λ i. i < n in
    let Q : ℕ → Type 0 = λ i. (u : ℕ) → Holds c.args.order.now.pairs i u → u ≡ i in
    record {
      len = c.if-may_relate.auto.states ∙ inv.len;
      within = elim c.if-may_relate.branch [
        | then-may_relate w ↦
            subst (λ l. (i : ℕ) → HasBit l i → P i) (sym w.states-is)
            (own_more P c.loop-q.states w.set_bit.new.row q within w.set_bit.ensures.others inv.within)
        | else-may_relate w ↦ subst (λ l. (i : ℕ) → HasBit l i → P i) (sym w.states-is) inv.within
      ];
      others = elim c.if-may_relate.branch [
        | then-may_relate w ↦
            subst (λ l. (i : ℕ) → i < q + 1 → bit_of l i ≡ false → Q i) (sym w.states-is)
            (rest_set Q c.loop-q.states w.set_bit.new.row q w.set_bit.ensures.here w.set_bit.ensures.others inv.others)
        | else-may_relate w ↦
            subst (λ l. (i : ℕ) → i < q + 1 → bit_of l i ≡ false → Q i) (sym w.states-is)
            (rest_kept Q c.loop-q.states q (c.may_relate.ensures w.if-may_relate.false) inv.others)
      ];
    }

pub returns : goal.returns
returns c = record {
  len = c.loop-q.invariant.len;
  within = c.loop-q.invariant.within;
  others = λ q below. c.loop-q.invariant.others q (omega (arith, below, c.loop-q-test.false, c.size-q-end.ensures.count));
}
