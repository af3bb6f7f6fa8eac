-- States compared by the columns that they have.
use Rattle.std.proofs.Common.{◌≡◌, ℕ, ◌+◌, ◌*◌, ◌<◌, ◌≤◌, ◌↔◌, inl, inr, List, false, refl, sym, ◌∙◌, subst, arith}
use Rattle.std.proofs.lemmas.Bool.{cases_eq, cases_lt, false≢true}
use Rattle.auto_core.specs.Rows.{bit_of, cell_of, HasBit, HasCell}
use Rattle.bit_rows.specs.Walks.{IsNextBit}
use Rattle.look_round.specs.Words.{HasColumns, IsRowNarrowed}

-- Each bit that row p of the table has, row q has.
abbrev pub IsRowWithin : List ℕ → ℕ → ℕ → ℕ → Type 0
IsRowWithin had span p q = (k : ℕ) → k < span * 64 → HasCell had span p k → HasCell had span q k

-- The states of row p below `at` that are left are those above p; the others stay, and so do the other rows.
pub record IsKeptUpto (old now : List ℕ) (width p : ℕ) (had : List ℕ) (span at : ℕ) : Type 0 where
  pub here : (q : ℕ) → q < width * 64 → HasCell now width p q ↔ (HasCell old width p q × (q < at → IsRowWithin had span p q))
  pub others : (r q : ℕ) → q < width * 64 → ¬ (r ≡ p) → cell_of now width r q ≡ cell_of old width r q

pub kept_none : (old : List ℕ) (width p : ℕ) (had : List ℕ) (span : ℕ) → IsKeptUpto old old width p had span 0
kept_none old width p had span = record {
  here = λ q near. (λ cell. (cell, λ lt. absurd (omega arith)), λ is. is.0);
  others = λ r q near apart. refl;
}

-- a row of the table is within another
pub rows_within :
    (had own other : List ℕ) (span p q : ℕ)
    → ((k : ℕ) → k < span * 64 → bit_of own k ≡ cell_of had span p k)
    → ((k : ℕ) → span * 64 ≤ k → bit_of own k ≡ false)
    → ((k : ℕ) → k < span * 64 → bit_of other k ≡ cell_of had span q k)
    → ((k : ℕ) → HasBit own k → HasBit other k) ↔ IsRowWithin had span p q
rows_within had own other span p q own_bits outside other_bits = (
  λ all k near cell. sym (other_bits k near) ∙ all k (own_bits k near ∙ cell),
  λ each k bit. elim (cases_lt k (span * 64)) [
    | inl near ↦ other_bits k near ∙ each k near (sym (own_bits k near) ∙ bit)
    | inr past ↦ absurd (false≢true (sym (outside k past) ∙ bit))
  ],
)

-- one more state of the row is looked at
pub kept_more :
    (old now new row : List ℕ) (width p : ℕ) (had own other : List ℕ) (span at q : ℕ)
    → IsKeptUpto old now width p had span at
    → ((s : ℕ) → s < width * 64 → bit_of row s ≡ cell_of old width p s)
    → IsNextBit row at q
    → (((k : ℕ) → HasBit own k → HasBit other k) ↔ IsRowWithin had span p q)
    → (HasCell new width p q ↔ (HasCell now width p q × ((k : ℕ) → HasBit own k → HasBit other k)))
    → ((r s : ℕ) → s < width * 64 → ¬ ((r ≡ p) × (s ≡ q)) → cell_of new width r s ≡ cell_of now width r s)
    → IsKeptUpto old new width p had span (q + 1)
kept_more old now new row width p had own other span at q h bits next within one same = record {
  here = λ s near. elim (cases_eq s q) [
    | inl e ↦
        let q_near : q < width * 64 = subst (λ x. x < width * 64) e near in
        let le = next.behind in
        subst (λ x. HasCell new width p x ↔ (HasCell old width p x × (x < q + 1 → IsRowWithin had span p x))) (sym e) (
          λ cell. let two = one.0 cell in (((h.here q q_near).0 two.0).0, λ lt. within.0 two.1),
          λ is. one.1 ((h.here q q_near).1 (is.0, λ lt. absurd (omega arith)), within.1 (is.1 (omega arith))),
        )
    | inr apart ↦
        let kept = same p s near (λ x. apart x.1) in (
          λ cell.
              let was = (h.here s near).0 (sym kept ∙ cell) in (
                was.0,
                λ lt. elim (cases_lt s at) [
                  | inl before ↦ was.1 before
                  | inr from ↦ absurd (false≢true (sym (next.none_between s from (omega arith)) ∙ bits s near ∙ was.0))
                ],
              ),
          λ is. let le = next.behind in kept ∙ (h.here s near).1 (is.0, λ lt. is.1 (omega arith)),
        )
  ];
  others = λ r s near apart. same r s near (λ x. apart x.0) ∙ h.others r s near apart;
}

-- the whole row is looked at
pub kept_all :
    (old now row : List ℕ) (width p : ℕ) (had : List ℕ) (span at : ℕ)
    → IsKeptUpto old now width p had span at
    → ((s : ℕ) → s < width * 64 → bit_of row s ≡ cell_of old width p s)
    → ((s : ℕ) → at ≤ s → bit_of row s ≡ false)
    → (q : ℕ)
    → q < width * 64
    → HasCell now width p q ↔ (HasCell old width p q × IsRowWithin had span p q)
kept_all old now row width p had span at h bits none q near = (
  λ cell.
      let was = (h.here q near).0 cell in (
        was.0,
        elim (cases_lt q at) [
          | inl before ↦ was.1 before
          | inr from ↦ absurd (false≢true (sym (none q from) ∙ bits q near ∙ was.0))
        ],
      ),
  λ is. (h.here q near).1 (is.0, λ lt. is.1),
)

-- what is left of a row is what the columns leave
pub compared :
    (old new : List ℕ) (width : ℕ) (columns : List ℕ) (p n : ℕ) (had : List ℕ) (span count : ℕ)
    → p < count
    → n ≤ span * 64
    → ((q : ℕ) → q < width * 64 → HasCell old width p q → q < count)
    → ((q : ℕ) → q < count → HasColumns columns width n had span q)
    → ((q : ℕ) → q < width * 64 → HasCell new width p q ↔ (HasCell old width p q × IsRowWithin had span p q))
    → IsRowNarrowed old new width columns p n
compared old new width columns p n had span count p_in room states have left q near = (
  λ cell.
      let is = (left q near).0 cell in
      let q_in = states q near is.0 in (
        is.0,
        λ k k_in has.
            let k_near : k < span * 64 = omega arith in
            ((have q q_in k k_near).0 (is.1 k k_near ((have p p_in k k_near).1 (k_in, has)))).1,
      ),
  λ is.
      let q_in = states q near is.0 in
      (left q near).1 (
        is.0,
        λ k k_near cell. let two = (have p p_in k k_near).0 cell in (have q q_in k k_near).1 (two.0, is.1 k two.0 two.1),
      ),
)
