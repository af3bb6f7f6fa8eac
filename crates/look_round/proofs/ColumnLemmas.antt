-- Rows of states that match, and columns of the states that have a word.
use Rattle.std.proofs.Common.{◌≡◌, ℕ, ◌+◌, ◌*◌, ◌<◌, ◌≤◌, ◌↔◌, inl, inr, List, refl, sym, ap, ◌∙◌, subst, arith}
use Rattle.std.proofs.lemmas.Bool.{cases_eq}
use Rattle.auto_core.specs.Rows.{bit_of, cell_of, HasBit, HasCell}
use Rattle.look_round.specs.Words.{AreMatches, AddsColumns, IsRowNarrowed}

-- one more row of matches is written
pub matches_more :
    (ok : ℕ → ℕ → Type 0) (n : ℕ) (old new row : List ℕ) (width p : ℕ)
    → AreMatches ok n old width p
    → ((q : ℕ) → q < width * 64 → HasBit row q ↔ ((q < n) × ok p q))
    → ((q : ℕ) → q < width * 64 → cell_of new width p q ≡ bit_of row q)
    → ((r q : ℕ) → q < width * 64 → ¬ (r ≡ p) → cell_of new width r q ≡ cell_of old width r q)
    → AreMatches ok n new width (p + 1)
matches_more ok n old new row width p h bits here others r q r_in near = elim (cases_eq r p) [
  | inl e ↦
      let P : ℕ → Type 0 = λ x. HasCell new width x q ↔ ((q < n) × ok x q) in
      subst P (sym e) (λ cell. (bits q near).0 (sym (here q near) ∙ cell), λ is. here q near ∙ (bits q near).1 is)
  | inr apart ↦
      let was = h r q (omega arith) near in
      (λ cell. was.0 (sym (others r q near apart) ∙ cell), λ is. others r q near apart ∙ was.1 is)
]

-- columns added one after another
pub adds_none : (columns : List ℕ) (width count : ℕ) (made : List ℕ) → AddsColumns columns columns width count count made 0
adds_none columns width count made = record {
  upward = omega arith;
  kept = λ i q i_in near. refl;
  each = λ i from below. absurd (omega arith);
}

pub adds_passed : (old now : List ℕ) (width count more : ℕ) (made : List ℕ) (a : ℕ) → AddsColumns old now width count more made a → AddsColumns old now width count more made (a + 1)
adds_passed old now width count more made a h = record {
  upward = h.upward;
  kept = h.kept;
  each = λ i from below. let is = h.each i from below in let lt = is.1 in (is.0, omega arith, is.2);
}

pub adds_one :
    (old now new : List ℕ) (width count more : ℕ) (made row : List ℕ) (a : ℕ)
    → AddsColumns old now width count more made a
    → ((q : ℕ) → q < width * 64 → bit_of row q ≡ cell_of made width a q)
    → ((q : ℕ) → q < width * 64 → cell_of new width more q ≡ bit_of row q)
    → ((r q : ℕ) → q < width * 64 → ¬ (r ≡ more) → cell_of new width r q ≡ cell_of now width r q)
    → AddsColumns old new width count (more + 1) made (a + 1)
adds_one old now new width count more made row a h bits here others =
    let up = h.upward in
    record {
      upward = omega arith;
      kept = λ i q i_in near. others i q near (λ e. omega arith) ∙ h.kept i q i_in near;
      each = λ i from below. elim (cases_eq i more) [
        | inl e ↦ (a, omega arith, λ q near. ap (λ x. cell_of new width x q) e ∙ here q near ∙ bits q near)
        | inr apart ↦
            let is = h.each i from (omega arith) in
            let lt = is.1 in
            (is.0, omega arith, λ q near. others i q near apart ∙ is.2 q near)
      ];
    }

-- The rows below p are narrowed, and the others are as they were.
abbrev pub AreRowsNarrowed : List ℕ → List ℕ → ℕ → List ℕ → ℕ → ℕ → Type 0
AreRowsNarrowed old now width columns words p =
    ((r : ℕ) → r < p → IsRowNarrowed old now width columns r words) × ((r q : ℕ) → p ≤ r → q < width * 64 → cell_of now width r q ≡ cell_of old width r q)

-- one more row is narrowed
pub rows_narrowed_more :
    (old now new : List ℕ) (width : ℕ) (columns : List ℕ) (words p : ℕ)
    → AreRowsNarrowed old now width columns words p
    → IsRowNarrowed now new width columns p words
    → ((r q : ℕ) → q < width * 64 → ¬ (r ≡ p) → cell_of new width r q ≡ cell_of now width r q)
    → AreRowsNarrowed old new width columns words (p + 1)
rows_narrowed_more old now new width columns words p (done, rest) here others = (
  λ r r_in q near. elim (cases_eq r p) [
    | inl e ↦ subst (λ x. HasCell new width x q ↔ (HasCell old width x q × ((k : ℕ) → k < words → HasCell columns width k x → HasCell columns width k q))) (sym e) (
      λ cell. let two = (here q near).0 cell in (sym (rest p q (omega arith) near) ∙ two.0, two.1),
      λ is. (here q near).1 (rest p q (omega arith) near ∙ is.0, is.1),
    )
    | inr apart ↦
        let was = done r (omega arith) q near in
        (λ cell. was.0 (sym (others r q near apart) ∙ cell), λ is. others r q near apart ∙ was.1 is)
  ],
  λ r q r_from near. others r q near (λ e. omega arith) ∙ rest r q (omega arith) near,
)

-- the row is narrowed by one more column
pub row_narrowed_more :
    (old now new : List ℕ) (width : ℕ) (columns column : List ℕ) (p i : ℕ)
    → p < width * 64
    → IsRowNarrowed old now width columns p i
    → ((q : ℕ) → q < width * 64 → bit_of column q ≡ cell_of columns width i q)
    → ((q : ℕ) → q < width * 64 → HasCell new width p q ↔ (HasCell now width p q × (HasBit column p → HasBit column q)))
    → IsRowNarrowed old new width columns p (i + 1)
row_narrowed_more old now new width columns column p i p_near h bits narrowed q near = (
  λ cell.
      let two = (narrowed q near).0 cell in
      let was = (h q near).0 two.0 in (
        was.0,
        λ k k_in has. elim (cases_eq k i) [
          | inl e ↦
              let here : HasCell columns width i p = subst (λ x. HasCell columns width x p) e has in
              let there : HasCell columns width i q = sym (bits q near) ∙ two.1 (bits p p_near ∙ here) in
              subst (λ x. HasCell columns width x q) (sym e) there
          | inr apart ↦ was.1 k (omega arith) has
        ],
      ),
  λ is. (narrowed q near).1 (
    (h q near).1 (is.0, λ k k_in. is.1 k (omega arith)),
    λ bit. bits q near ∙ is.1 i (omega arith) (sym (bits p p_near) ∙ bit),
  ),
)

-- a row that is left with its own place alone need not be narrowed on
pub row_narrowed_alone :
    (old now : List ℕ) (width : ℕ) (columns : List ℕ) (p i n : ℕ)
    → i ≤ n
    → IsRowNarrowed old now width columns p i
    → ((q : ℕ) → q < width * 64 → HasCell now width p q → q ≡ p)
    → IsRowNarrowed old now width columns p n
row_narrowed_alone old now width columns p i n upto h alone q near = (
  λ cell. (((h q near).0 cell).0, λ k k_in has. subst (λ x. HasCell columns width k x) (sym (alone q near cell)) has),
  λ is. (h q near).1 (is.0, λ k k_in. is.1 k (omega arith)),
)

-- the rows that are narrowed
abbrev pub IsNarrowedBy : List ℕ → List ℕ → ℕ → ℕ → List ℕ → ℕ → Type 0
IsNarrowedBy old now count width columns n = (p : ℕ) → p < count → IsRowNarrowed old now width columns p n
