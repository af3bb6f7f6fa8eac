use Rattle.std.proofs.Common.{◌≡◌, ℕ, ◌+◌, ◌<◌, false, inl, inr, sym, ◌∙◌, subst, arith}
use Rattle.std.proofs.lemmas.Bool.{cases_eq, cases_lt, false≢true}
use Rattle.auto_core.specs.Game.{Holds}
use Rattle.auto_core.specs.Rows.{HasBit, bit_of}
use Rattle.bit_rows.specs.Walks.{IsNextBit}
use Rattle.graph_rows.proofs.PrintLemmas.{rest_kept, rest_set}
use Rattle.graph_rows.proofs.prints.mark_answered.Goals as goal
use Rattle.graph_rows.proofs.prints.mark_answered.Goals.{then-meets, else-meets}

pub loop-q-preserved : goal.loop-q-preserved
loop-q-preserved c =
    let q : ℕ = c.in-Some.q in
    let inv = c.loop-q.invariant in
    let next : IsNextBit c.args.related.now c.loop-q.at q = c.in-Some.ensures.found in
    let Q : ℕ → Type 0 = λ i. HasBit c.args.related.now i → (u : ℕ) → HasBit c.args.row.now u → Holds c.args.order.now.pairs i u → ⊥ in
    let before : (i : ℕ) → i < q → bit_of c.loop-q.states i ≡ false → Q i = λ i below unset is. elim (cases_lt i c.loop-q.at) [
      | inl earlier ↦ inv.answered i earlier is unset
      | inr after ↦ absurd (false≢true (sym (next.none_between i after below) ∙ is))
    ] in
    let answered : (i : ℕ) → i < q + 1 → bit_of c.if-meets.states i ≡ false → Q i = elim c.if-meets.branch [
      | then-meets w ↦
          subst (λ l. (i : ℕ) → i < q + 1 → bit_of l i ≡ false → Q i) (sym w.states-is)
          (rest_set Q c.loop-q.states w.set_bit.new.row q w.set_bit.ensures.here w.set_bit.ensures.others before)
      | else-meets w ↦
          subst (λ l. (i : ℕ) → i < q + 1 → bit_of l i ≡ false → Q i) (sym w.states-is)
          (rest_kept Q c.loop-q.states q (λ is u has rel. false≢true (sym w.if-meets.false ∙ c.meets.ensures.1 (u, has, (c.row.ensures.bits u).1 rel))) before)
    ] in
    record {
      answered = λ i below is unset. answered i below unset is;
      stay = elim c.if-meets.branch [
        | then-meets w ↦ λ i was. subst (λ l. HasBit l i) (sym w.states-is) (elim (cases_eq i q) [
          | inl e ↦ subst (HasBit w.set_bit.new.row) (sym e) w.set_bit.ensures.here
          | inr n ↦ w.set_bit.ensures.others i n ∙ inv.stay i was
        ])
        | else-meets w ↦ λ i was. subst (λ l. HasBit l i) (sym w.states-is) (inv.stay i was)
      ];
      len = c.if-meets.auto.states ∙ inv.len;
      most = omega (arith, next.within, c.requires.related.len);
    }
