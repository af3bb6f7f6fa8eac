-- Relations that tables of bits stand for.
use Rattle.std.proofs.Common.{◌≡◌, ℕ, ◌+◌, ◌*◌, ◌/◌, ◌%◌, ◌<◌, ◌≤◌, ◌⊎◌, ◌↔◌, inl, inr, true, false, List, [], ap, get_or, replicate, refl, sym, ◌∙◌, subst, arith}
use Rattle.std.proofs.lemmas.Bool.{cases_eq, cases_lt, false≢true}
use Rattle.std.proofs.lemmas.List.{get_or-replicate, get_or_past, length-replicate}
use Rattle.std.proofs.lemmas.Nat.Bits.{bit_at-zero}
use Rattle.auto_core.specs.Rows.{bit_of, cell_of, HasBit, HasCell}
use Rattle.auto_core.specs.Reach.{IsTable, HasArc}
use Rattle.auto_core.specs.Game.{Holds, Close}
use Rattle.bit_rel.specs.Relation.{Relation, IsRelation, Adds, Removes, IsClosed}
use Rattle.bit_rel.specs.Stored.{pairs_below}
use Rattle.bit_rel.proofs.ClosingLemmas.{close_same}
use Rattle.bit_rel.proofs.PairLemmas.{pairs_hold, pairs_have, pairs_none, valid_pairs}

-- the relation on n states that a table holds
abbrev pub table_relation : List ℕ → ℕ → ℕ → Relation
table_relation table width n = record { size = n; pairs = pairs_below (cell_of table width) n n }

pub valid_table : (table : List ℕ) (width n : ℕ) → IsRelation (table_relation table width n)
valid_table table width n = valid_pairs (cell_of table width) n

-- a pair of states is held where its cell says so
pub held_cell : (table : List ℕ) (width n p q : ℕ) → Holds (table_relation table width n).pairs p q → (p < n) × (q < n) × HasCell table width p q
held_cell table width n p q h = pairs_hold (cell_of table width) n n p q h

pub cell_held : (table : List ℕ) (width n p q : ℕ) → p < n → q < n → HasCell table width p q → Holds (table_relation table width n).pairs p q
cell_held table width n p q left right h = pairs_have (cell_of table width) n n p q left right h

pair_cases : (r s p q : ℕ) → ((r ≡ p) × (s ≡ q)) ⊎ ¬ ((r ≡ p) × (s ≡ q))
pair_cases r s p q =
    elim (cases_eq r p) [
      | inl e ↦ elim (cases_eq s q) [ inl f ↦ inl (e, f) | inr n ↦ inr (λ h. n h.1) ]
      | inr n ↦ inr (λ h. n h.0)
    ]

module _ (old new : List ℕ) (w n p q : ℕ) (p_in : p < n) (q_in : q < n) (room : n ≤ w * 64) (others : (r s : ℕ) → s < w * 64 → ¬ ((r ≡ p) × (s ≡ q)) → cell_of new w r s ≡ cell_of old w r s) where
  pub added : cell_of new w p q ≡ true → Adds (table_relation old w n) (table_relation new w n) p q
  added here = record { size = refl_size; pairs = λ r s. (to r s, from r s) }
    where
      refl_size : n ≡ n
      refl_size = omega arith

      to : (r s : ℕ) → Holds (table_relation new w n).pairs r s → Holds (table_relation old w n).pairs r s ⊎ ((r ≡ p) × (s ≡ q))
      to r s h =
          let (left, right, is) = held_cell new w n r s h in
          elim (pair_cases r s p q) [
            | inl same ↦ inr same
            | inr apart ↦ inl (cell_held old w n r s left right (sym (others r s (omega arith) apart) ∙ is))
          ]

      from : (r s : ℕ) → Holds (table_relation old w n).pairs r s ⊎ ((r ≡ p) × (s ≡ q)) → Holds (table_relation new w n).pairs r s
      from r s h =
          elim (pair_cases r s p q) [
            | inl same ↦
                let P : ℕ → Type 0 = λ x. Holds (table_relation new w n).pairs x s in
                let Q : ℕ → Type 0 = λ x. Holds (table_relation new w n).pairs p x in
                subst P (sym same.0) (subst Q (sym same.1) (cell_held new w n p q p_in q_in here))
            | inr apart ↦ elim h [
              | inl was ↦
                  let (left, right, is) = held_cell old w n r s was in
                  cell_held new w n r s left right (others r s (omega arith) apart ∙ is)
              | inr same ↦ absurd (apart same)
            ]
          ]

  pub removed : cell_of new w p q ≡ false → Removes (table_relation old w n) (table_relation new w n) p q
  removed here = record { size = refl_size; pairs = λ r s. (to r s, from r s) }
    where
      refl_size : n ≡ n
      refl_size = omega arith

      to : (r s : ℕ) → Holds (table_relation new w n).pairs r s → Holds (table_relation old w n).pairs r s × ¬ ((r ≡ p) × (s ≡ q))
      to r s h =
          let (left, right, is) = held_cell new w n r s h in
          elim (pair_cases r s p q) [
            | inl same ↦
                let P : ℕ → Type 0 = λ x. cell_of new w x s ≡ true in
                let Q : ℕ → Type 0 = λ x. cell_of new w p x ≡ true in
                absurd (false≢true (sym here ∙ subst Q same.1 (subst P same.0 is)))
            | inr apart ↦ (cell_held old w n r s left right (sym (others r s (omega arith) apart) ∙ is), apart)
          ]

      from : (r s : ℕ) → Holds (table_relation old w n).pairs r s × ¬ ((r ≡ p) × (s ≡ q)) → Holds (table_relation new w n).pairs r s
      from r s (was, apart) =
          let (left, right, is) = held_cell old w n r s was in
          cell_held new w n r s left right (others r s (omega arith) apart ∙ is)

-- a table of zeros holds no pair
all_zero : (m i : ℕ) → ◌≡◌ {A = ℕ} (get_or (replicate m 0) i 0) 0
all_zero m i = elim (cases_lt i m) [
  | inl near ↦ get_or-replicate m i 0 0 near
  | inr far ↦ get_or_past (replicate m 0) i 0 (rw (length-replicate {A = ℕ} m 0) far)
]

no_cells : (m w p q : ℕ) → cell_of (replicate m 0) w p q ≡ false
no_cells m w p q = rw (all_zero m ((p * w * 64 + q) / 64), bit_at-zero ((p * w * 64 + q) % 64)) refl

pub no_pairs : (table : List ℕ) (m w n : ℕ) → table ≡ replicate m 0 → table_relation table w n ≡ record { size = n; pairs = [] }
no_pairs table m w n is =
    ap (λ t. table_relation t w n) is
    ∙ ap (λ ps. let R : Relation = record { size = n; pairs = ps } in R) (pairs_none (cell_of (replicate m 0) w) n n (λ p q left right. no_cells m w p q))

-- a closed table stands for the closed relation
pub closed_relation :
    (old new : List ℕ) (w n : ℕ)
    → ((p q : ℕ) → HasArc new n w p q ↔ ((p < n) × (q < n) × Close (HasArc old n w) p q))
    → IsClosed (table_relation old w n) (table_relation new w n)
closed_relation old new w n closed = record {
  size = refl;
  pairs = λ p q. (
    λ h.
        let way = (closed p q).0 (held_cell new w n p q h) in
        (way.0, way.1, close_same (HasArc old n w) (Holds (table_relation old w n).pairs) (λ r s a. cell_held old w n r s a.0 a.1 a.2) p q way.2),
    λ (p_in, q_in, way).
        let a = (closed p q).1 (p_in, q_in, close_same (Holds (table_relation old w n).pairs) (HasArc old n w) (λ r s h. held_cell old w n r s h) p q way) in
        cell_held new w n p q a.0 a.1 a.2,
  );
}

-- a row's bits are the pairs of its number
pub row_pairs :
    (table row : List ℕ) (w n p : ℕ)
    → IsTable table n w
    → p < n
    → ((q : ℕ) → q < w * 64 → bit_of row q ≡ cell_of table w p q)
    → ((q : ℕ) → w * 64 ≤ q → bit_of row q ≡ false)
    → (q : ℕ)
    → HasBit row q ↔ Holds (table_relation table w n).pairs p q
row_pairs table row w n p t p_in inside outside q = (
  λ h. elim (cases_lt q (w * 64)) [
    | inl near ↦
        let cell : HasCell table w p q = sym (inside q near) ∙ h in
        cell_held table w n p q p_in (t.columns p q p_in near cell) cell
    | inr far ↦ absurd (false≢true (sym (outside q far) ∙ h))
  ],
  λ h.
      let held = held_cell table w n p q h in
      let room = t.room in
      inside q (omega (arith, held.1)) ∙ held.2,
)
