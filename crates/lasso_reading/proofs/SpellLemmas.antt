-- The letters from a position of a lasso on.
use Rattle.std.specs.Prelude.{slice_index}
use Rattle.std.proofs.Common.{◌≡◌, ℕ, zero, suc, ◌+◌, ◌-◌, ◌<◌, ◌≤◌, inl, inr, cond, List, [], ◌∷◌, ◌++◌, length, take, drop, map, refl, sym, ap, ◌∙◌, arith, append_assoc, length-append}
use Rattle.std.proofs.Math.Seq.{take-append_seam, drop-append_seam, drop-cons}
use Rattle.std.proofs.Math.ListN.{drop_of_length-le}
use Rattle.std.proofs.lemmas.Bool.{cases_eq, eq-eqb, ne_eqb}
use Rattle.std.proofs.lemmas.List.{map-append}
use Rattle.auto_core.specs.Run.{repeated}
use Rattle.lasso_reading.specs.Words.{first_letters}
use Rattle.lasso_reading.specs.Reading.{next_position}
use Rattle.lasso_reading.proofs.WordLemmas.{first_more, longer_first, own_first}

-- Two lists in two parts, the first parts equally long.
pub parts_same : (xs ys zs ws : List ℕ) → length xs ≡ length zs → xs ++ ys ≡ zs ++ ws → (xs ≡ zs) × (ys ≡ ws)
parts_same xs ys zs ws size same = (
  sym (take-append_seam xs ys) ∙ ap (take (length xs)) same ∙ ap (λ n. take n (zs ++ ws)) size ∙ take-append_seam zs ws,
  sym (drop-append_seam xs ys) ∙ ap (drop (length xs)) same ∙ ap (λ n. drop n (zs ++ ws)) size ∙ drop-append_seam zs ws,
)

pub map_repeated : (f : ℕ → ℕ) (v : List ℕ) (n : ℕ) → map f (repeated v n) ≡ repeated (map f v) n
map_repeated f v zero = refl
map_repeated f v (suc n) = map-append f v (repeated v n) ∙ ap (λ l. map f v ++ l) (map_repeated f v n)

pub map_lasso : (f : ℕ → ℕ) (u v : List ℕ) (n : ℕ) → map f (u ++ repeated v n) ≡ map f u ++ repeated (map f v) n
map_lasso f u v n = map-append f u (repeated v n) ∙ ap (λ l. map f u ++ l) (map_repeated f v n)

-- A front of a lasso has its first letters.
pub front_first : (u v : List ℕ) (j : ℕ) → 1 ≤ length v → u ++ repeated v j ≡ first_letters u v (length (u ++ repeated v j))
front_first u v j some = sym (own_first (u ++ repeated v j) v) ∙ longer_first u v j (length (u ++ repeated v j)) some

module _ (cu cv : List ℕ) where
  -- The n letters from the position i on, and the position behind them.
  abbrev pub spelled : ℕ → ℕ → List ℕ
  spelled i zero = []
  spelled i (suc n) = slice_index (cu ++ cv) i ∷ spelled (next_position cu cv i) n

  abbrev pub after : ℕ → ℕ → ℕ
  after i zero = i
  after i (suc n) = after (next_position cu cv i) n

  pub length-spelled : (i n : ℕ) → length (spelled i n) ≡ n
  length-spelled i zero = refl
  length-spelled i (suc n) = ap (λ m. suc m) (length-spelled (next_position cu cv i) n)

  pub spelled_join : (i m n : ℕ) → spelled i (m + n) ≡ spelled i m ++ spelled (after i m) n
  spelled_join i zero n = let e : 0 + n ≡ n = omega arith in ap (spelled i) e
  spelled_join i (suc m) n = let e : suc m + n ≡ suc (m + n) = omega arith in ap (spelled i) e ∙ ap (λ l. slice_index (cu ++ cv) i ∷ l) (spelled_join (next_position cu cv i) m n)

  pub spelled_front : (i n m : ℕ) → n ≤ m → take n (spelled i m) ≡ spelled i n
  spelled_front i n m upto =
      let e : n + (m - n) ≡ m = omega arith in
      ap (λ k. take n (spelled i k)) (sym e)
      ∙ ap (take n) (spelled_join i n (m - n))
      ∙ ap (λ k. take k (spelled i n ++ spelled (after i n) (m - n))) (sym (length-spelled i n))
      ∙ take-append_seam (spelled i n) (spelled (after i n) (m - n))

  pub next_last : (i : ℕ) → i + 1 ≡ length (cu ++ cv) → next_position cu cv i ≡ length cu
  next_last i e = ap (λ b. cond b (length cu) (i + 1)) (eq-eqb (i + 1) (length (cu ++ cv)) e)

  pub next_inner : (i : ℕ) → (i + 1 ≡ length (cu ++ cv) → ⊥) → next_position cu cv i ≡ i + 1
  next_inner i apart = ap (λ b. cond b (length cu) (i + 1)) (ne_eqb (i + 1) (length (cu ++ cv)) apart)

  module _ (some : 1 ≤ length cv) where
    -- From i on they are what is left of the lasso, and the loop again and again.
    spelled_from : (n i : ℕ) → i < length (cu ++ cv) → spelled i n ≡ first_letters (drop i (cu ++ cv)) cv n
    spelled_from zero i lt = refl
    spelled_from (suc n) i lt =
        let left : drop i (cu ++ cv) ≡ slice_index (cu ++ cv) i ∷ drop (suc i) (cu ++ cv) = drop-cons (cu ++ cv) i 0 lt in
        let total = length-append cu cv in
        let rest : spelled (next_position cu cv i) n ≡ take n (drop (suc i) (cu ++ cv) ++ repeated cv (suc n)) = elim (cases_eq (i + 1) (length (cu ++ cv))) [
          | inl e ↦
              let none : drop (suc i) (cu ++ cv) ≡ [] = drop_of_length-le (cu ++ cv) {i = suc i} (omega arith) in
              ap (λ j. spelled j n) (next_last i e)
              ∙ spelled_from n (length cu) (omega arith)
              ∙ ap (λ l. take n (l ++ repeated cv n)) (drop-append_seam cu cv)
              ∙ ap (λ l. take n (l ++ repeated cv (suc n))) (sym none)
          | inr apart ↦
              let s : i + 1 ≡ suc i = omega arith in
              ap (λ j. spelled j n) (next_inner i apart ∙ s)
              ∙ spelled_from n (suc i) (omega arith)
              ∙ sym (first_more (drop (suc i) (cu ++ cv)) cv n (suc n) some (omega arith))
        ] in
        ap (λ l. slice_index (cu ++ cv) i ∷ l) rest ∙ ap (λ l. take (suc n) (l ++ repeated cv (suc n))) (sym left)

    pub spelled_is : (n : ℕ) → spelled 0 n ≡ first_letters cu cv n
    spelled_is n =
        let total = length-append cu cv in
        spelled_from n 0 (omega arith) ∙ ap (take n) (append_assoc cu cv (repeated cv n)) ∙ first_more cu cv n (suc n) some (omega arith)
