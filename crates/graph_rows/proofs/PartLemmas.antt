-- A part of a list, written over, and the row of a table joined as a part of it.
use Rattle.std.proofs.Common.{◌≡◌, ℕ, ◌+◌, ◌-◌, ◌*◌, ◌<◌, ◌≤◌, ◌||◌, List, length, take, drop, get_or, refl, sym, ap, ◌∙◌, subst, arith, bit_or}
use Rattle.std.proofs.lemmas.List.{get_or-take, get_or-drop, get_or-append_right, length-take-le}
use Rattle.std.proofs.lemmas.Slice.{take-put_mid, take-put_mid_below, drop-put_mid}
use borrow.Rule.Slice.PartMut.{put_mid}
use Rattle.auto_core.specs.Rows.{bit_of, cell_of}
use Rattle.auto_core.proofs.CellLemmas.{row_ored, row_left}

module _ (a k : ℕ) (xs ys : List ℕ) (within : a + k ≤ length xs) (len : length ys ≡ k) where
  pub part_before : (i : ℕ) → i < a → get_or (put_mid a k xs ys) i 0 ≡ get_or xs i 0
  part_before i below =
      sym (get_or-take a (put_mid a k xs ys) i 0 below) ∙ ap (λ (l : List ℕ). get_or l i 0) (take-put_mid_below a k xs ys a (omega arith) (omega (arith, within)))
      ∙ get_or-take a xs i 0 below

  pub part_here : (j : ℕ) → j < k → get_or (put_mid a k xs ys) (a + j) 0 ≡ get_or ys j 0
  part_here j j_in =
      sym (get_or-take (a + length ys) (put_mid a k xs ys) (a + j) 0 (omega (arith, len)))
      ∙ ap (λ (l : List ℕ). get_or l (a + j) 0) (take-put_mid a k xs ys (a + length ys) refl (omega (arith, within)))
      ∙ get_or-append_right (take a xs) ys a (a + j) 0 (length-take-le a xs (omega (arith, within))) (omega arith)
      ∙ ap (λ (m : ℕ). get_or ys m 0) (omega arith)

  pub part_behind : (i : ℕ) → a + k ≤ i → get_or (put_mid a k xs ys) i 0 ≡ get_or xs i 0
  part_behind i from =
      let j : ℕ = i - (a + k) in
      let is : a + k + j ≡ i = omega arith in
      subst (λ m. get_or (put_mid a k xs ys) m 0 ≡ get_or xs m 0) is
      (sym (get_or-drop (a + k) (put_mid a k xs ys) j 0) ∙ ap (λ (l : List ℕ). get_or l j 0) (drop-put_mid a k xs ys (a + k) (omega arith) (omega (arith, within)) len)
      ∙ get_or-drop (a + k) xs j 0)

module _
    (table from part : List ℕ) (w p k : ℕ)
    (is : k ≡ w)
    (within : p * w + w ≤ length table)
    (len : length part ≡ k)
    (ored : (j : ℕ) → j < length part → get_or part j 0 ≡ bit_or (get_or (take k (drop (p * w) table)) j 0) (get_or from j 0)) where
  pub part_ored : (q : ℕ) → q < w * 64 → cell_of (put_mid (p * w) k table part) w p q ≡ (cell_of table w p q || bit_of from q)
  part_ored =
      row_ored table (put_mid (p * w) k table part) from w p
      (λ j j_in.
      part_here (p * w) k table part (omega (arith, within, is)) len j (omega (arith, is)) ∙ ored j (omega (arith, is, len))
      ∙ ap (λ n. bit_or n (get_or from j 0)) (get_or-take k (drop (p * w) table) j 0 (omega (arith, is)) ∙ get_or-drop (p * w) table j 0))

  pub part_left : (r q : ℕ) → q < w * 64 → ¬ (r ≡ p) → cell_of (put_mid (p * w) k table part) w r q ≡ cell_of table w r q
  part_left =
      row_left table (put_mid (p * w) k table part) w p
      (λ i behind. part_behind (p * w) k table part (omega (arith, within, is)) len i (omega (arith, is)))
      (λ i before. part_before (p * w) k table part (omega (arith, within, is)) len i before)
