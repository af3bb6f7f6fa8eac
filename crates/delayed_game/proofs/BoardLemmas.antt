-- Relations from places to states that tables of bits stand for.
use Rattle.std.proofs.Common.{◌≡◌, ℕ, zero, suc, ◌+◌, ◌*◌, ◌/◌, ◌<◌, ◌≤◌, ◌⊎◌, ◌↔◌, inl, inr, Bool, true, false, ◌&&◌, cond, List, [], ◌∷◌, length, get_or, refl, sym, ◌∙◌, subst, arith, length-append}
use Rattle.std.proofs.lemmas.Bool.{cases_eq, cases_lt, and_from, and_parts, false≢true}
use Rattle.auto_core.specs.Rows.{bit_of, cell_of, HasBit, HasCell}
use Rattle.auto_core.specs.Game.{Holds, IsWithin}
use Rattle.bit_rel.specs.Relation.{Relation, IsRelation}
use Rattle.bit_rel.specs.Stored.{pairs_in_row, pairs_below}
use Rattle.bit_rel.proofs.LengthLemmas.{fewer, no_more}
use Rattle.bit_rel.proofs.PairLemmas.{pairs_hold, pairs_have, pairs_ascend}
use Rattle.bit_rows.proofs.WordLemmas.{bit_of_zero_word}
use Rattle.delayed_game.specs.Pairings.{Pairing, IsPairing, Removes, IsNarrowed, table_pairing}

-- ---- the number of pairs

-- the same pairs as a relation on numbers
abbrev pub as_relation : Pairing → Relation
as_relation R = record { size = R.places + R.states; pairs = R.pairs }

relation_valid : (R : Pairing) → IsPairing R → IsRelation (as_relation R)
relation_valid R valid = record {
  in_range = λ p q h. let (left, right) = valid.in_range p q h in (omega arith, omega arith);
  in_order = valid.in_order;
}

-- a relation that lost pairs has no more of them, and fewer if it lost one
pub no_more_pairs : (R S : Pairing) → IsPairing R → IsPairing S → IsWithin S.pairs R.pairs → length S.pairs ≤ length R.pairs
no_more_pairs R S valid after within = no_more (as_relation R) (as_relation S) (relation_valid R valid) (relation_valid S after) within

pub fewer_pairs : (R S : Pairing) (p q : ℕ) → IsPairing R → IsPairing S → IsWithin S.pairs R.pairs → Holds R.pairs p q → (Holds S.pairs p q → ⊥) → length S.pairs < length R.pairs
fewer_pairs R S p q valid after within held lost = fewer (as_relation R) (as_relation S) p q (relation_valid R valid) (relation_valid S after) within held lost

row_few : (cell : ℕ → ℕ → Bool) (p n : ℕ) → length (pairs_in_row cell p n) ≤ n
row_few cell p zero = omega arith
row_few cell p (suc n) =
    let rest = row_few cell p n in
    let one = last (cell p n) in
    omega (arith, length-append (pairs_in_row cell p n) (cond (cell p n) ((p, n) ∷ []) []))
  where
    last : (b : Bool) → length {A = ℕ × ℕ} (cond b ((p, n) ∷ []) []) ≤ 1
    last true = omega arith
    last false = omega arith

pairs_few : (cell : ℕ → ℕ → Bool) (n m : ℕ) → length (pairs_below cell n m) ≤ m * n
pairs_few cell n zero = omega arith
pairs_few cell n (suc m) =
    let rest = pairs_few cell n m in
    let row = row_few cell m n in
    let step : suc m * n ≡ n + m * n = suc_times m n in
    omega (arith, length-append (pairs_below cell n m) (pairs_in_row cell m n))
  where
    suc_times : (a n : ℕ) → suc a * n ≡ n + a * n
    suc_times a n = grind arith

-- ---- tables

pub held_cell : (table : List ℕ) (width m n x q : ℕ) → Holds (table_pairing table width m n).pairs x q → (x < m) × (q < n) × HasCell table width x q
held_cell table width m n x q h = pairs_hold (cell_of table width) n m x q h

pub cell_held : (table : List ℕ) (width m n x q : ℕ) → x < m → q < n → HasCell table width x q → Holds (table_pairing table width m n).pairs x q
cell_held table width m n x q left right h = pairs_have (cell_of table width) n m x q left right h

pub valid_table : (table : List ℕ) (width m n : ℕ) → IsPairing (table_pairing table width m n)
valid_table table width m n = record {
  in_range = λ x q h. let (left, right, is) = held_cell table width m n x q h in (left, right);
  in_order = pairs_ascend (cell_of table width) n m;
  few = pairs_few (cell_of table width) n m;
}

pair_cases : (r s p q : ℕ) → ((r ≡ p) × (s ≡ q)) ⊎ ¬ ((r ≡ p) × (s ≡ q))
pair_cases r s p q =
    elim (cases_eq r p) [
      | inl e ↦ elim (cases_eq s q) [ inl f ↦ inl (e, f) | inr n ↦ inr (λ h. n h.1) ]
      | inr n ↦ inr (λ h. n h.0)
    ]

-- one cell is cleared
pub lost :
    (old new : List ℕ) (w m n x q : ℕ)
    → n ≤ w * 64
    → ((r s : ℕ) → s < w * 64 → ¬ ((r ≡ x) × (s ≡ q)) → cell_of new w r s ≡ cell_of old w r s)
    → cell_of new w x q ≡ false
    → Removes (table_pairing old w m n) (table_pairing new w m n) x q
lost old new w m n x q room others here = record { places = refl; states = refl; pairs = λ r s. (to r s, from r s) }
  where
    to : (r s : ℕ) → Holds (table_pairing new w m n).pairs r s → Holds (table_pairing old w m n).pairs r s × ¬ ((r ≡ x) × (s ≡ q))
    to r s h =
        let (left, right, is) = held_cell new w m n r s h in
        elim (pair_cases r s x q) [
          | inl same ↦
              let P : ℕ → Type 0 = λ y. cell_of new w y s ≡ true in
              let Q : ℕ → Type 0 = λ y. cell_of new w x y ≡ true in
              absurd (false≢true (sym here ∙ subst Q same.1 (subst P same.0 is)))
          | inr apart ↦ (cell_held old w m n r s left right (sym (others r s (omega arith) apart) ∙ is), apart)
        ]

    from : (r s : ℕ) → Holds (table_pairing old w m n).pairs r s × ¬ ((r ≡ x) × (s ≡ q)) → Holds (table_pairing new w m n).pairs r s
    from r s (was, apart) =
        let (left, right, is) = held_cell old w m n r s was in
        cell_held new w m n r s left right (others r s (omega arith) apart ∙ is)

-- one row is narrowed
pub narrowed :
    (old new row : List ℕ) (w m n x : ℕ)
    → n ≤ w * 64
    → ((q : ℕ) → q < w * 64 → cell_of new w x q ≡ (cell_of old w x q && bit_of row q))
    → ((r q : ℕ) → q < w * 64 → ¬ (r ≡ x) → cell_of new w r q ≡ cell_of old w r q)
    → IsNarrowed (table_pairing old w m n) (table_pairing new w m n) x row
narrowed old new row w m n x room here others = record { places = refl; states = refl; pairs = λ r s. (to r s, from r s) }
  where
    to : (r s : ℕ) → Holds (table_pairing new w m n).pairs r s → Holds (table_pairing old w m n).pairs r s × (r ≡ x → HasBit row s)
    to r s h =
        let (left, right, is) = held_cell new w m n r s h in
        elim (cases_eq r x) [
          | inl e ↦
              let both = and_parts (cell_of old w x s) (bit_of row s) (sym (here s (omega arith)) ∙ subst (λ y. cell_of new w y s ≡ true) e is) in
              (cell_held old w m n r s left right (subst (λ y. cell_of old w y s ≡ true) (sym e) both.0), λ same. both.1)
          | inr apart ↦ (cell_held old w m n r s left right (sym (others r s (omega arith) apart) ∙ is), λ e. absurd (apart e))
        ]

    from : (r s : ℕ) → Holds (table_pairing old w m n).pairs r s × (r ≡ x → HasBit row s) → Holds (table_pairing new w m n).pairs r s
    from r s (was, passes) =
        let (left, right, is) = held_cell old w m n r s was in
        elim (cases_eq r x) [
          | inl e ↦
              let cell : cell_of new w x s ≡ true = here s (omega arith) ∙ and_from (cell_of old w x s) (bit_of row s) (subst (λ y. cell_of old w y s ≡ true) e is) (passes e) in
              cell_held new w m n r s left right (subst (λ y. cell_of new w y s ≡ true) (sym e) cell)
          | inr apart ↦ cell_held new w m n r s left right (others r s (omega arith) apart ∙ is)
        ]

-- the columns stay those of states where one row is narrowed
pub columns_narrowed :
    (old new row : List ℕ) (w m n x : ℕ)
    → ((q : ℕ) → q < w * 64 → cell_of new w x q ≡ (cell_of old w x q && bit_of row q))
    → ((r q : ℕ) → q < w * 64 → ¬ (r ≡ x) → cell_of new w r q ≡ cell_of old w r q)
    → ((y s : ℕ) → y < m → s < w * 64 → HasCell old w y s → s < n)
    → (y s : ℕ) → y < m → s < w * 64 → HasCell new w y s → s < n
columns_narrowed old new row w m n x here others columns y s y_in near cell = elim (cases_eq y x) [
  | inl e ↦
      let both = and_parts (cell_of old w x s) (bit_of row s) (sym (here s near) ∙ subst (λ z. cell_of new w z s ≡ true) e cell) in
      columns y s y_in near (subst (λ z. cell_of old w z s ≡ true) (sym e) both.0)
  | inr apart ↦ columns y s y_in near (sym (others y s near apart) ∙ cell)
]

-- a row's bits are the pairs of its place
pub row_pairs :
    (table row : List ℕ) (w m n x : ℕ)
    → n ≤ w * 64
    → ((y q : ℕ) → y < m → q < w * 64 → HasCell table w y q → q < n)
    → x < m
    → ((q : ℕ) → q < w * 64 → bit_of row q ≡ cell_of table w x q)
    → ((q : ℕ) → w * 64 ≤ q → bit_of row q ≡ false)
    → (q : ℕ)
    → HasBit row q ↔ Holds (table_pairing table w m n).pairs x q
row_pairs table row w m n x room columns x_in inside outside q = (
  λ h. elim (cases_lt q (w * 64)) [
    | inl near ↦
        let cell : HasCell table w x q = sym (inside q near) ∙ h in
        cell_held table w m n x q x_in (columns x q x_in near cell) cell
    | inr far ↦ absurd (false≢true (sym (outside q far) ∙ h))
  ],
  λ h.
      let held = held_cell table w m n x q h in
      inside q (omega (arith, held.1)) ∙ held.2,
)

-- the columns stay those of states where only one cell is cleared
pub columns_stay :
    (old new : List ℕ) (w m n x q : ℕ)
    → ((r s : ℕ) → s < w * 64 → ¬ ((r ≡ x) × (s ≡ q)) → cell_of new w r s ≡ cell_of old w r s)
    → cell_of new w x q ≡ false
    → ((y s : ℕ) → y < m → s < w * 64 → HasCell old w y s → s < n)
    → (y s : ℕ) → y < m → s < w * 64 → HasCell new w y s → s < n
columns_stay old new w m n x q others here columns y s y_in near cell = elim (pair_cases y s x q) [
  | inl same ↦
      let P : ℕ → Type 0 = λ z. cell_of new w z s ≡ true in
      let Q : ℕ → Type 0 = λ z. cell_of new w x z ≡ true in
      absurd (false≢true (sym here ∙ subst Q same.1 (subst P same.0 cell)))
  | inr apart ↦ columns y s y_in near (sym (others y s near apart) ∙ cell)
]

-- ---- a row for each place, taken from a relation

-- The first rows have the bits of the relation's rows, `words` places for each.
abbrev pub HasRowsOf : Relation → ℕ → List ℕ → ℕ → ℕ → Type 0
HasRowsOf R words table w upto = (y q : ℕ) → y < upto → q < w * 64 → HasCell table w y q ↔ Holds R.pairs (y / words) q

pub rows_more :
    (R : Relation) (words : ℕ) (old new row : List ℕ) (w x p : ℕ)
    → p ≡ x / words
    → HasRowsOf R words old w x
    → ((q : ℕ) → HasBit row q ↔ Holds R.pairs p q)
    → ((q : ℕ) → q < w * 64 → cell_of new w x q ≡ bit_of row q)
    → ((r q : ℕ) → q < w * 64 → ¬ (r ≡ x) → cell_of new w r q ≡ cell_of old w r q)
    → HasRowsOf R words new w (x + 1)
rows_more R words old new row w x p is h bits here others y q lt near = elim (cases_eq y x) [
  | inl e ↦
      let P : ℕ → Type 0 = λ z. HasCell new w z q ↔ Holds R.pairs (z / words) q in
      let Q : ℕ → Type 0 = λ z. Holds R.pairs z q in
      subst P (sym e) (λ cell. subst Q is ((bits q).0 (sym (here q near) ∙ cell)), λ held. here q near ∙ (bits q).1 (subst Q (sym is) held))
  | inr apart ↦
      let was = h y q (omega arith) near in
      (λ cell. was.0 (sym (others y q near apart) ∙ cell), λ held. others y q near apart ∙ was.1 held)
]

pub rows_columns : (R : Relation) (words : ℕ) (table : List ℕ) (w m : ℕ) → IsRelation R → HasRowsOf R words table w m → (y q : ℕ) → y < m → q < w * 64 → HasCell table w y q → q < R.size
rows_columns R words table w m valid h y q y_in near cell = (valid.in_range (y / words) q ((h y q y_in near).0 cell)).1

pub rows_have :
    (R : Relation) (words : ℕ) (table : List ℕ) (w m : ℕ)
    → IsRelation R
    → R.size ≤ w * 64
    → HasRowsOf R words table w m
    → (x q : ℕ)
    → x < m
    → Holds (table_pairing table w m R.size).pairs x q ↔ Holds R.pairs (x / words) q
rows_have R words table w m valid room h x q x_in = (
  λ there.
      let (left, right, cell) = held_cell table w m R.size x q there in
      (h x q x_in (omega arith)).0 cell,
  λ held.
      let lt = (valid.in_range (x / words) q held).1 in
      cell_held table w m R.size x q x_in lt ((h x q x_in (omega arith)).1 held),
)

-- ---- each place with each state

-- The first rows have just the bits below the number.
abbrev pub HasFullRows : ℕ → List ℕ → ℕ → ℕ → Type 0
HasFullRows n table w upto = (y q : ℕ) → y < upto → q < w * 64 → HasCell table w y q ↔ (q < n)

pub full_more :
    (n : ℕ) (old new row : List ℕ) (w x : ℕ)
    → HasFullRows n old w x
    → ((q : ℕ) → HasBit row q ↔ (q < n))
    → ((q : ℕ) → q < w * 64 → cell_of new w x q ≡ bit_of row q)
    → ((r q : ℕ) → q < w * 64 → ¬ (r ≡ x) → cell_of new w r q ≡ cell_of old w r q)
    → HasFullRows n new w (x + 1)
full_more n old new row w x h bits here others y q lt near = elim (cases_eq y x) [
  | inl e ↦
      let P : ℕ → Type 0 = λ z. HasCell new w z q ↔ (q < n) in
      subst P (sym e) (λ cell. (bits q).0 (sym (here q near) ∙ cell), λ below. here q near ∙ (bits q).1 below)
  | inr apart ↦
      let was = h y q (omega arith) near in
      (λ cell. was.0 (sym (others y q near apart) ∙ cell), λ below. others y q near apart ∙ was.1 below)
]

pub full_has : (n : ℕ) (table : List ℕ) (w m : ℕ) → n ≤ w * 64 → HasFullRows n table w m → (x q : ℕ) → x < m → q < n → Holds (table_pairing table w m n).pairs x q
full_has n table w m room h x q x_in q_in = cell_held table w m n x q x_in q_in ((h x q x_in (omega arith)).1 q_in)

-- A row without bits gets those below a number.
pub full_bits : (n : ℕ) (old new : List ℕ) → ((i : ℕ) → get_or old i 0 ≡ 0) → ((i : ℕ) → HasBit new i ↔ ((i < n) ⊎ HasBit old i)) → (q : ℕ) → HasBit new q ↔ (q < n)
full_bits n old new none marked q = (
  λ bit. elim ((marked q).0 bit) [ inl lt ↦ lt | inr was ↦ absurd (false≢true (sym (bit_of_zero_word old q (none (q / 64))) ∙ was)) ],
  λ lt. (marked q).1 (inl lt),
)
