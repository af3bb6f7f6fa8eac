-- Lists of elements by pairs, as one is made and as one is changed.
use Rattle.std.proofs.Common.{◌≡◌, ℕ, zero, suc, ◌<◌, ◌≤◌, inl, inr, List, [], ◌∷◌, ◌++◌, length, slice_index_or, slice_set, replicate, Vec, refl, sym, ap, ◌∙◌, subst, arith, length-append}
use Rattle.std.specs.declared.alloc.Global.{Global}
use Rattle.std.proofs.lemmas.Bool.{cases_eq, cases_lt}
use Rattle.std.proofs.lemmas.List.{length-map, get_or-map, get_or_past, get_or-set_other, get_or-set_same, length-set}
use Rattle.evidence.specs.Tables.{numbers_at}
use Rattle.evidence.proofs.TableLemmas.{numbers_set, numbers_stay}
use Rattle.ramsey_search.specs.EndLists.{list_at, HasPut, lists_in, StandApart}

-- The list of a pair is that at its place.
pub list_is : (lists : List (Vec ℕ Global)) (places : List ℕ) (k : ℕ) → k < length places → list_at (lists_in lists places) k ≡ numbers_at lists (slice_index_or places k 0)
list_is lists places k lt = get_or-map (numbers_at lists) places k 0 [] lt

-- A pair of the lists has a place.
pub pair_below : (lists : List (Vec ℕ Global)) (places : List ℕ) (seen : List (List ℕ)) (k : ℕ) → lists_in lists places ≡ seen → k < length seen → k < length places
pair_below lists places seen k is lt = subst (λ n. k < n) (ap length (sym is) ∙ length-map places (numbers_at lists)) lt

-- There is none behind the last pair.
none_past : (lists : List (Vec ℕ Global)) (places : List ℕ) (k : ℕ) → length places ≤ k → list_at (lists_in lists places) k ≡ []
none_past lists places k le = get_or_past (lists_in lists places) k [] (subst (λ n. n ≤ k) (sym (length-map places (numbers_at lists))) le)

-- The numbers at a place stay where a list is put behind all.
numbers_append : (lists : List (Vec ℕ Global)) (v : Vec ℕ Global) (k : ℕ) → k < length lists → numbers_at (lists ++ v ∷ []) k ≡ numbers_at lists k
numbers_append [] v k lt = elim lt [ ]
numbers_append (x ∷ lists) v zero lt = refl
numbers_append (x ∷ lists) v (suc k) lt = numbers_append lists v k (omega (arith, lt))

numbers_last : (lists : List (Vec ℕ Global)) (v : Vec ℕ Global) → numbers_at (lists ++ v ∷ []) (length lists) ≡ v.items
numbers_last [] v = refl
numbers_last (x ∷ lists) v = numbers_last lists v

module _ (lists : List (Vec ℕ Global)) (places : List ℕ) (are : StandApart lists places) (pair : ℕ) (v : Vec ℕ Global) (pair_in : pair < length places) where
  abbrev place : ℕ
  place = slice_index_or places pair 0

  -- ---- the list at the pair's place is another one

  changed : List (Vec ℕ Global)
  changed = slice_set lists place v

  pub list_changed : 1 ≤ place → HasPut (lists_in lists places) (lists_in (slice_set lists place v) places) pair v.items
  list_changed own = record {
    size = length-map places (numbers_at (slice_set lists place v)) ∙ sym (length-map places (numbers_at lists));
    here = list_is (slice_set lists place v) places pair pair_in ∙ numbers_set lists place v (are.within pair pair_in);
    others = λ k other. elim (cases_lt k (length places)) [
      | inl lt ↦
          list_is (slice_set lists place v) places k lt
          ∙ numbers_stay lists place (slice_index_or places k 0) v (λ same. other (sym (are.apart pair k pair_in lt own (sym same))))
          ∙ sym (list_is lists places k lt)
      | inr le ↦ none_past (slice_set lists place v) places k (omega (arith, le)) ∙ sym (none_past lists places k (omega (arith, le)))
    ];
  }

  pub apart_changed : 1 ≤ place → StandApart (slice_set lists place v) places
  apart_changed own = record {
    some = let size = length-set lists place v in let some = are.some in omega arith;
    none = numbers_stay lists place 0 v (λ same. omega (arith, own, same)) ∙ are.none;
    within = λ k lt. let size = length-set lists place v in let below = are.within k lt in omega arith;
    apart = are.apart;
  }

  -- ---- the list stands behind the others, and the pair's place is there

  abbrev last : ℕ
  last = length lists

  abbrev moved : List ℕ
  moved = slice_set places pair last

  moved_size : length moved ≡ length places
  moved_size = length-set places pair last

  moved_here : slice_index_or moved pair 0 ≡ last
  moved_here = get_or-set_same places pair last 0 pair_in

  moved_other : (k : ℕ) → (k ≡ pair → ⊥) → slice_index_or moved k 0 ≡ slice_index_or places k 0
  moved_other k other = get_or-set_other places pair k last 0 other

  pub list_added : HasPut (lists_in lists places) (lists_in (lists ++ v ∷ []) moved) pair v.items
  list_added = record {
    size = length-map moved (numbers_at (lists ++ v ∷ [])) ∙ moved_size ∙ sym (length-map places (numbers_at lists));
    here = list_is (lists ++ v ∷ []) moved pair (subst (λ n. pair < n) (sym moved_size) pair_in)
        ∙ ap (numbers_at (lists ++ v ∷ [])) moved_here ∙ numbers_last lists v;
    others = λ k other. elim (cases_lt k (length places)) [
      | inl lt ↦
          list_is (lists ++ v ∷ []) moved k (subst (λ n. k < n) (sym moved_size) lt)
          ∙ ap (numbers_at (lists ++ v ∷ [])) (moved_other k other)
          ∙ numbers_append lists v (slice_index_or places k 0) (are.within k lt)
          ∙ sym (list_is lists places k lt)
      | inr le ↦
          none_past (lists ++ v ∷ []) moved k (let size = moved_size in omega (arith, le, size))
          ∙ sym (none_past lists places k (omega (arith, le)))
    ];
  }

  within_moved : (k : ℕ) → k < length moved → slice_index_or moved k 0 < length (lists ++ v ∷ [])
  within_moved k lt =
      let size = length-append lists (v ∷ []) in
      elim (cases_eq k pair) [
        | inl e ↦ let here = subst (λ i. slice_index_or moved i 0 ≡ last) (sym e) moved_here in omega (arith, here, size)
        | inr other ↦
            let below = are.within k (let whole = moved_size in omega (arith, lt, whole)) in
            let same = moved_other k (λ e. other e) in omega (arith, below, same, size)
      ]

  apart_moved : (k i : ℕ) → k < length moved → i < length moved → 1 ≤ slice_index_or moved k 0 → slice_index_or moved k 0 ≡ slice_index_or moved i 0 → k ≡ i
  apart_moved k i k_lt i_lt own same =
      let whole = moved_size in
      let k_in : k < length places = omega (arith, k_lt, whole) in
      let i_in : i < length places = omega (arith, i_lt, whole) in
      elim (cases_eq k pair) [
        | inl k_is ↦ elim (cases_eq i pair) [
          | inl i_is ↦ k_is ∙ sym i_is
          | inr i_other ↦
              let here = subst (λ j. slice_index_or moved j 0 ≡ last) (sym k_is) moved_here in
              let there = moved_other i (λ e. i_other e) in
              let below = are.within i i_in in
              absurd (omega (arith, here, there, below, same))
        ]
        | inr k_other ↦ elim (cases_eq i pair) [
          | inl i_is ↦
              let here = subst (λ j. slice_index_or moved j 0 ≡ last) (sym i_is) moved_here in
              let there = moved_other k (λ e. k_other e) in
              let below = are.within k k_in in
              absurd (omega (arith, here, there, below, same))
          | inr i_other ↦
              let k_same = moved_other k (λ e. k_other e) in
              let i_same = moved_other i (λ e. i_other e) in
              are.apart k i k_in i_in (omega (arith, own, k_same)) (sym k_same ∙ same ∙ i_same)
        ]
      ]

  pub apart_added : StandApart (lists ++ v ∷ []) moved
  apart_added = record {
    some = let size = length-append lists (v ∷ []) in omega arith;
    none = numbers_append lists v 0 are.some ∙ are.none;
    within = within_moved;
    apart = apart_moved;
  }

-- Before there are elements.
pub all_empty : (lists : List (Vec ℕ Global)) (places : List ℕ) → numbers_at lists 0 ≡ [] → ((k : ℕ) → slice_index_or places k 0 ≡ 0) → (k : ℕ) → list_at (lists_in lists places) k ≡ []
all_empty lists places none zeros k = elim (cases_lt k (length places)) [
  | inl lt ↦ list_is lists places k lt ∙ ap (numbers_at lists) (zeros k) ∙ none
  | inr le ↦ none_past lists places k (omega (arith, le))
]

pub zeros : (n k : ℕ) → slice_index_or (replicate n zero) k zero ≡ zero
zeros zero k = refl
zeros (suc n) zero = refl
zeros (suc n) (suc k) = zeros n k
