-- A work list: how many places are still to be visited, and what the marks stand for.
use Rattle.std.proofs.Common.{◌≡◌, ℕ, zero, suc, ◌+◌, ◌*◌, ◌<◌, ◌≤◌, inl, inr, true, false, List, cond, refl, sym, ◌∙◌, subst, arith}
use Rattle.std.proofs.lemmas.Bool.{cases_eq, cases_lt, false≢true}
use Rattle.auto_core.specs.Rows.{bit_of, cell_of, HasBit, HasCell}
use Rattle.auto_core.specs.Reach.{IsTable, HasArc, AreReached, ReturnsTo}
use Rattle.auto_core.specs.Game.{Chain, Close}

-- how many of the first n bits are not set
abbrev pub unset : List ℕ → ℕ → ℕ
unset row zero = 0
unset row (suc n) = cond (bit_of row n) 0 1 + unset row n

unset_same : (old new : List ℕ) (n p : ℕ) → n ≤ p → ((i : ℕ) → ¬ (i ≡ p) → bit_of new i ≡ bit_of old i) → unset new n ≡ unset old n
unset_same old new zero p n_upto others = refl
unset_same old new (suc n) p n_upto others =
    let rest = unset_same old new n p (omega arith) others in
    let here : bit_of new n ≡ bit_of old n = others n (λ e. omega arith) in
    rw (here, rest) refl

pub unset_falls :
    (old new : List ℕ) (n p : ℕ)
    → p < n
    → bit_of old p ≡ false
    → bit_of new p ≡ true
    → ((i : ℕ) → ¬ (i ≡ p) → bit_of new i ≡ bit_of old i)
    → unset new n < unset old n
unset_falls old new zero p p_in was is others = absurd (omega arith)
unset_falls old new (suc n) p p_in was is others =
    elim (cases_eq n p) [
      | inl e ↦
          let was_here : bit_of old n ≡ false = rw e was in
          let is_here : bit_of new n ≡ true = rw e is in
          let rest = unset_same old new n p (omega arith) others in
          rw (was_here, is_here, rest) (omega arith)
      | inr apart ↦
          let rest = unset_falls old new n p (omega arith) was is others in
          let here : bit_of new n ≡ bit_of old n = others n apart in
          rw here (omega arith)
    ]

pub chain_join : (R : ℕ → ℕ → Type 0) (m n p q r : ℕ) → Chain R m p q → Chain R n q r → Chain R (m + n) p r
chain_join R zero n p q r c d = let e : n ≡ 0 + n = omega arith in subst (λ k. Chain R k p r) e (subst (λ s. Chain R n s r) (sym c) d)
chain_join R (suc m) n p q r (s, h, c) d = let e : suc (m + n) ≡ suc m + n = omega arith in subst (λ k. Chain R k p r) e (s, h, chain_join R m n s q r c d)

pub close_refl : (R : ℕ → ℕ → Type 0) (p : ℕ) → Close R p p
close_refl R p = (zero, refl)

pub close_trans : (R : ℕ → ℕ → Type 0) (p q r : ℕ) → Close R p q → Close R q r → Close R p r
close_trans R p q r (m, c) (n, d) = (m + n, chain_join R m n p q r c d)

pub close_one : (R : ℕ → ℕ → Type 0) (p q : ℕ) → R p q → Close R p q
close_one R p q h = (1, (q, h, refl))

-- marks that are kept by each arc are kept by each chain
marks_follow :
    (R : ℕ → ℕ → Type 0) (marks : List ℕ)
    → ((p q : ℕ) → HasBit marks p → R p q → HasBit marks q)
    → (n p q : ℕ)
    → HasBit marks p
    → Chain R n p q
    → HasBit marks q
marks_follow R marks closed zero p q h c = subst (λ s. HasBit marks s) c h
marks_follow R marks closed (suc n) p q h (r, step, c) = marks_follow R marks closed n r q (closed p r h step) c

pub reached_all :
    (R : ℕ → ℕ → Type 0) (old new : List ℕ)
    → ((q : ℕ) → HasBit new q → (p : ℕ) × HasBit old p × Close R p q)
    → ((q : ℕ) → HasBit old q → HasBit new q)
    → ((p q : ℕ) → HasBit new p → R p q → HasBit new q)
    → AreReached R old new
reached_all R old new each kept closed =
    record { each = each; all = λ p q h c. marks_follow R new closed c.0 p q (kept p h) c.1 }

-- the arcs out of a place as a row, and what is reached from them
pub returned :
    (any flagged : List ℕ) (n width at : ℕ)
    → IsTable flagged n width
    → at < n
    → (row new : List ℕ)
    → ((q : ℕ) → q < width * 64 → bit_of row q ≡ cell_of flagged width at q)
    → ((q : ℕ) → width * 64 ≤ q → bit_of row q ≡ false)
    → AreReached (HasArc any n width) row new
    → (HasBit new at → ReturnsTo (HasArc any n width) (HasArc flagged n width) at)
    × (ReturnsTo (HasArc any n width) (HasArc flagged n width) at → HasBit new at)
returned any flagged n width at t at_in row new inside outside r = (
  λ h.
      let (q, in_row, way) = r.each at h in
      elim (cases_lt q (width * 64)) [
        | inl near ↦
            let cell : HasCell flagged width at q = sym (inside q near) ∙ in_row in
            (q, (at_in, t.columns at q at_in near cell, cell), way)
        | inr far ↦ absurd (false≢true (sym (outside q far) ∙ in_row))
      ],
  λ (q, arc, way).
      let room = t.room in
      let near : q < width * 64 = omega (arith, arc.1) in
      r.all q at (inside q near ∙ arc.2) way,
)
