-- From where a place is reached in so many arcs, row by row.
use Rattle.std.proofs.Common.{◌≡◌, ◌↔◌, ◌⊎◌, ℕ, suc, ◌+◌, ◌*◌, ◌<◌, ◌≤◌, inl, inr, true, false, List, length, refl, sym, ◌∙◌, subst, arith}
use Rattle.std.proofs.lemmas.Bool.{cases_eq, false≢true}
use Rattle.auto_core.specs.Rows.{HasCell, cell_of, bit_of}
use Rattle.auto_core.specs.Game.{Chain}
use Rattle.lasso_accept.specs.Countdown.{IsCountdown}

-- The first places from which an arc leads into row `at` stand in the next row.
pub record HasNext (R : ℕ → ℕ → Type 0) (count width at upto : ℕ) (old new : List ℕ) : Type 0 where
  pub here :
      (p : ℕ)
      → p < count
      → HasCell new width (at + 1) p
      ↔ (HasCell old width (at + 1) p ⊎ ((p < upto) × ((q : ℕ) × R p q × HasCell old width at q)))
  pub others : (r q : ℕ) → q < width * 64 → ¬ (r ≡ at + 1) → cell_of new width r q ≡ cell_of old width r q

pub next_none : (R : ℕ → ℕ → Type 0) (count width at : ℕ) (old : List ℕ) → HasNext R count width at 0 old old
next_none R count width at old =
    record {
      here = λ p p_in. (λ h. inl h, λ h. elim h [ inl was ↦ was | inr (below, found) ↦ absurd (omega arith) ]);
      others = λ r q q_in n. refl;
    }

pub next_passed :
    (R : ℕ → ℕ → Type 0) (count width at place : ℕ) (old now : List ℕ)
    → HasNext R count width at place old now
    → (((q : ℕ) × R place q × HasCell old width at q) → ⊥)
    → HasNext R count width at (place + 1) old now
next_passed R count width at place old now s none =
    record {
      here = λ p p_in. (
        λ h. elim ((s.here p p_in).0 h) [ inl was ↦ inl was | inr (below, found) ↦ inr (omega arith, found) ],
        λ h.
            (s.here p p_in).1 (elim h [
              | inl was ↦ inl was
              | inr (below, found) ↦
                  elim (cases_eq p place) [
                    | inl e ↦ let P : ℕ → Type 0 = λ x. (q : ℕ) × R x q × HasCell old width at q in absurd (none (subst P e found))
                    | inr n ↦ inr (omega arith, found)
                  ]
            ]),
      );
      others = s.others;
    }

pub next_more :
    (R : ℕ → ℕ → Type 0) (count width at place : ℕ) (old now new : List ℕ)
    → count ≤ width * 64
    → HasNext R count width at place old now
    → ((q : ℕ) × R place q × HasCell old width at q)
    → cell_of new width (at + 1) place ≡ true
    → ((r s : ℕ) → s < width * 64 → ¬ ((r ≡ at + 1) × (s ≡ place)) → cell_of new width r s ≡ cell_of now width r s)
    → HasNext R count width at (place + 1) old new
next_more R count width at place old now new room s found set others =
    record {
      here = λ p p_in.
          elim (cases_eq p place) [
            | inl e ↦
                let P : ℕ → Type 0 = λ x. (q : ℕ) × R x q × HasCell old width at q in
                let Q : ℕ → Type 0 = λ x. HasCell new width (at + 1) x in
                (λ h. inr (omega arith, subst P (sym e) found), λ h. subst Q (sym e) set)
            | inr n ↦
                let kept : cell_of new width (at + 1) p ≡ cell_of now width (at + 1) p = others (at + 1) p (omega arith) (λ both. n both.1) in (
                  λ h.
                      elim ((s.here p p_in).0 (sym kept ∙ h)) [ inl was ↦ inl was | inr (below, there) ↦ inr (omega arith, there) ],
                  λ h.
                      kept ∙ (s.here p p_in).1 (elim h [ inl was ↦ inl was | inr (below, there) ↦ inr (omega arith, there) ]),
                )
          ];
      others = λ r q q_in n. others r q q_in (λ both. n both.0) ∙ s.others r q q_in n;
    }

-- The first rows are counted, the later ones are clear.
pub record IsCounted (R : ℕ → ℕ → Type 0) (count width target at : ℕ) (table : List ℕ) : Type 0 where
  pub chains : (k p : ℕ) → k ≤ at → p < count → HasCell table width k p ↔ Chain R k p target
  pub clear : (k p : ℕ) → at < k → p < width * 64 → cell_of table width k p ≡ false

pub counted_none :
    (R : ℕ → ℕ → Type 0) (count width target : ℕ) (old new : List ℕ)
    → count ≤ width * 64
    → target < count
    → ((i : ℕ) → bit_of old i ≡ false)
    → cell_of new width 0 target ≡ true
    → ((r s : ℕ) → s < width * 64 → ¬ ((r ≡ 0) × (s ≡ target)) → cell_of new width r s ≡ cell_of old width r s)
    → IsCounted R count width target 0 new
counted_none R count width target old new room target_in clear set others =
    record {
      chains = λ k p k_in p_in.
          let first : k ≡ 0 = omega arith in
          let P : ℕ → Type 0 = λ i. HasCell new width i p ↔ Chain R i p target in
          subst P (sym first) (
            λ h.
                elim (cases_eq p target) [
                  | inl e ↦ e
                  | inr n ↦ absurd (false≢true (sym (clear (0 * width * 64 + p)) ∙ sym (others 0 p (omega arith) (λ both. n both.1)) ∙ h))
                ],
            λ c. let Q : ℕ → Type 0 = λ x. HasCell new width 0 x in subst Q (sym c) set,
          );
      clear = λ k p k_in p_in. others k p p_in (λ both. omega arith) ∙ clear (k * width * 64 + p);
    }

pub counted_more :
    (R : ℕ → ℕ → Type 0) (count width target at : ℕ) (now new : List ℕ)
    → count ≤ width * 64
    → ((p q : ℕ) → R p q → q < count)
    → IsCounted R count width target at now
    → ((p : ℕ) → p < count → HasCell new width (at + 1) p ↔ (HasCell now width (at + 1) p ⊎ ((q : ℕ) × R p q × HasCell now width at q)))
    → ((r q : ℕ) → q < width * 64 → ¬ (r ≡ at + 1) → cell_of new width r q ≡ cell_of now width r q)
    → IsCounted R count width target (at + 1) new
counted_more R count width target at now new room inside s here others =
    record {
      chains = λ k p k_in p_in.
          elim (cases_eq k (suc at)) [
            | inl e ↦
                let P : ℕ → Type 0 = λ i. HasCell new width i p ↔ Chain R i p target in
                let next : at + 1 ≡ suc at = omega arith in
                let Q : ℕ → Type 0 = λ i. HasCell new width i p → Chain R (suc at) p target in
                let S : ℕ → Type 0 = λ i. Chain R (suc at) p target → HasCell new width i p in
                subst P (sym e) (
                  subst Q next
                      (λ h.
                      elim ((here p p_in).0 h) [
                        | inl was ↦ absurd (false≢true (sym (s.clear (at + 1) p (omega arith) (omega arith)) ∙ was))
                        | inr (q, arc, cell) ↦ (q, arc, (s.chains at q (omega arith) (inside p q arc)).0 cell)
                      ]),
                  subst S next (λ (q, arc, chain). (here p p_in).1 (inr (q, arc, (s.chains at q (omega arith) (inside p q arc)).1 chain))),
                )
            | inr n ↦
                let same : cell_of new width k p ≡ cell_of now width k p = others k p (omega arith) (λ e. omega arith) in
                let old = s.chains k p (omega arith) p_in in
                (λ h. old.0 (sym same ∙ h), λ c. same ∙ old.1 c)
          ];
      clear = λ k p k_in p_in. others k p p_in (λ e. omega arith) ∙ s.clear k p (omega arith) p_in;
    }

pub counted_all :
    (R : ℕ → ℕ → Type 0) (count width target at : ℕ) (table : List ℕ)
    → length table ≡ count * width
    → count ≤ at + 1
    → IsCounted R count width target at table
    → IsCountdown R count width target table
counted_all R count width target at table len over s = record { len = len; chains = λ k p k_in p_in. s.chains k p (omega arith) p_in }
