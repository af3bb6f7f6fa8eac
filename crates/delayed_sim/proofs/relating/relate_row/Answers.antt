use Rattle.std.proofs.Common.{◌≡◌, ℕ, ◌+◌, ◌<◌, ◌⊎◌, ◌↔◌, inl, inr, [], refl, sym, ◌∙◌, subst, arith}
use Rattle.std.proofs.lemmas.Bool.{false≢true}
use Rattle.auto_core.specs.Game.{Holds}
use Rattle.bit_rel.specs.Relation.{Relation}
use Rattle.delayed_sim.specs.Related.{HoldsEach}
use Rattle.delayed_sim.proofs.RelateLemmas.{row_added, row_passed}
use Rattle.delayed_sim.proofs.relating.relate_row.Goals as goal
use Rattle.delayed_sim.proofs.relating.relate_row.Goals.{then-has_bit, else-has_bit}

pub loop-q-init : goal.loop-q-init
loop-q-init c = (refl, λ r s. (λ h. inl h, λ either. elim either [ inl h ↦ h | inr row ↦ let lt = row.1 in absurd (omega arith) ]))

pub loop-q-preserved : goal.loop-q-preserved
loop-q-preserved c =
    let D = c.args.delayed.now in
    let p = c.args.p in
    let q = c.loop-q.q in
    let old = c.args.related.now in
    let now = c.loop-q.related in
    let was = c.loop-q.invariant in
    let E : ℕ → Type 0 = λ s. HoldsEach D [] p s in
    let P : Relation → Type 0 = λ T. (T.size ≡ old.size) × ((r s : ℕ) → Holds T.pairs r s ↔ (Holds old.pairs r s ⊎ ((r ≡ p) × (s < q + 1) × E s))) in
    let each = c.keep_each.ensures q in
    let q_in : q < c.states.result = omega (arith, c.loop-q-test.true, c.states.ensures.count, c.states-q-end.ensures.count) in
    elim c.if-has_bit.branch [
      | then-has_bit w ↦ subst P (sym w.related-is) (w.set.ensures.pairs.size ∙ was.0, row_added old now w.set.new.self p q E was.1 w.set.ensures.pairs (each.0 (sym c.has_bit.ensures ∙ w.if-has_bit.true)).1)
      | else-has_bit w ↦ subst P (sym w.related-is) (was.0, row_passed old now now p q E was.1 (λ held. false≢true (sym w.if-has_bit.false ∙ c.has_bit.ensures ∙ each.1 ((c.mark_below.ensures q).1 (inl q_in), held))))
    ]

pub returns-clause-pairs : goal.returns-clause-pairs
returns-clause-pairs c =
    let D = c.args.delayed.now in
    let all : c.loop-q.q ≡ D.states = omega (arith, c.loop-q-test.false, c.loop-q.auto.q-end, c.states-q-end.ensures.count) in
    subst (λ (n : ℕ). (r s : ℕ) → Holds c.loop-q.related.pairs r s ↔ (Holds c.args.related.now.pairs r s ⊎ ((r ≡ c.args.p) × (s < n) × HoldsEach D [] c.args.p s))) all c.loop-q.invariant.1
