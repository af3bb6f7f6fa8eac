-- Tables with the same arcs have the same words.
use Rattle.std.proofs.Common.{◌≡◌, ℕ, zero, suc, ◌+◌, ◌*◌, ◌/◌, ◌%◌, ◌^◌, ◌<◌, ◌↔◌, inl, inr, ◌==◌, List, get_or, take, drop, sym, ap, ◌∙◌, subst, arith}
use Rattle.std.specs.Int.{bit_at}
use Rattle.std.specs.Cmp.{both_ways}
use Rattle.std.proofs.Math.Nat.{div-add-mod, div-lt_iff_lt-mul, mod-lt, pow-suc}
use Rattle.std.proofs.lemmas.Bool.{cases_eq, cases_lt, eqb-true, eq-eqb}
use Rattle.std.proofs.lemmas.Grind.{same_number_lists}
use Rattle.std.proofs.lemmas.List.{get_or-take, get_or-drop, get_or_past, length-take}
use Rattle.std.proofs.lemmas.Nat.Bits.{bit_at_lowest, bit_at-suc, bit_at-lt}
use Rattle.auto_core.specs.Rows.{cell_of}
use Rattle.auto_core.specs.Reach.{IsTable, HasArc}
use Rattle.auto_core.specs.Graph.{SameGraph}
use Rattle.auto_core.proofs.CellLemmas.{cell_at}
use Rattle.graph_rows.specs.Block.{width_of, plane_len, joined_plane, past_plane, block_graph, IsFormed}

same_numbers : (k a b : ℕ) → a < 2 ^ k → b < 2 ^ k → ((i : ℕ) → i < k → bit_at a i ≡ bit_at b i) → a ≡ b
same_numbers zero a b a_fits b_fits same = omega arith
same_numbers (suc k) a b a_fits b_fits same =
    let half_a : a / 2 < 2 ^ k = omega (arith, pow-suc 2 k) in
    let half_b : b / 2 < 2 ^ k = omega (arith, pow-suc 2 k) in
    let low : a % 2 ≡ b % 2 = sym (bit_at_lowest a) ∙ same 0 (omega arith) ∙ bit_at_lowest b in
    let high : a / 2 ≡ b / 2 =
    same_numbers k (a / 2) (b / 2) half_a half_b (λ i i_in. sym (bit_at-suc a i) ∙ same (suc i) (omega arith) ∙ bit_at-suc b i) in
    omega arith

same_bit : (x y : ℕ) → x < 2 → y < 2 → (x == 1) ≡ (y == 1) → x ≡ y
same_bit x y x_bit y_bit same =
    elim (cases_eq x 1) [
      | inl e ↦ e ∙ sym (eqb-true y 1 (sym same ∙ eq-eqb x 1 e))
      | inr n ↦
          elim (cases_eq y 1) [
            | inl f ↦ absurd (n (eqb-true x 1 (same ∙ eq-eqb y 1 f)))
            | inr m ↦ omega arith
          ]
    ]

module _ (n width : ℕ) (t u : List ℕ) (first : IsTable t n width) (second : IsTable u n width)
    (same : (p q : ℕ) → HasArc t n width p q ↔ HasArc u n width p q) where
  same_cell : (p q : ℕ) → p < n → q < width * 64 → cell_of t width p q ≡ cell_of u width p q
  same_cell p q p_in q_in =
      both_ways (cell_of t width p q) (cell_of u width p q)
      (λ c. let a = (same p q).0 (p_in, first.columns p q p_in q_in c, c) in a.2)
      (λ c. let a = (same p q).1 (p_in, second.columns p q p_in q_in c, c) in a.2)

  same_word : (p j : ℕ) → p < n → j < width → (t_fits : get_or t (p * width + j) 0 < 2 ^ 64) → (u_fits : get_or u (p * width + j) 0 < 2 ^ 64) → get_or t (p * width + j) 0 ≡ get_or u (p * width + j) 0
  same_word p j p_in j_in t_fits u_fits =
      same_numbers 64 (get_or t (p * width + j) 0) (get_or u (p * width + j) 0) t_fits u_fits
      (λ i i_in.
      let q : ℕ = j * 64 + i in
      let q_in : q < width * 64 = omega arith in
      let at : q / 64 ≡ j = omega arith in
      let bit : q % 64 ≡ i = omega arith in
      let of : (table : List ℕ) → cell_of table width p q ≡ (bit_at (get_or table (p * width + j) 0) i == 1) =
      λ table. cell_at table width p q ∙ ap (λ k. bit_at (get_or table (p * width + k) 0) (q % 64) == 1) at ∙ ap (λ k. bit_at (get_or table (p * width + j) 0) k == 1) bit in
      same_bit (bit_at (get_or t (p * width + j) 0) i) (bit_at (get_or u (p * width + j) 0) i)
      (bit_at-lt (get_or t (p * width + j) 0) i) (bit_at-lt (get_or u (p * width + j) 0) i)
      (sym (of t) ∙ same_cell p q p_in q_in ∙ of u))

  pub same_tables : ((k : ℕ) → get_or t k 0 < 2 ^ 64) → ((k : ℕ) → get_or u k 0 < 2 ^ 64) → t ≡ u
  same_tables t_fits u_fits =
      same_number_lists t u (first.len ∙ sym second.len)
      (λ k k_in.
      let k_below : k < n * width = omega (arith, first.len) in
      let wide : 0 < width = some_width width n k k_below in
      let p : ℕ = k / width in
      let j : ℕ = k % width in
      let p_in : p < n = (div-lt_iff_lt-mul {k = width} {x = k} {y = n} wide).1 k_below in
      let j_in : j < width = mod-lt k wide in
      let at : p * width + j ≡ k = ap (λ m. m + j) (mul_turned p width) ∙ div-add-mod k width in
      let P : ℕ → Type 0 = λ m. get_or t m 0 ≡ get_or u m 0 in
      subst P at (same_word p j p_in j_in (t_fits (p * width + j)) (u_fits (p * width + j))))
    where
      mul_turned : (a b : ℕ) → a * b ≡ b * a
      mul_turned a b = grind arith

      some_width : (w m k : ℕ) → k < m * w → 0 < w
      some_width zero m k h = absurd (omega (arith, mul_turned m 0))
      some_width (suc w) m k h = omega arith

-- the planes of blocks of words that fit
fits_front : (k : ℕ) (g : List ℕ) → ((i : ℕ) → get_or g i 0 < 2 ^ 64) → (i : ℕ) → get_or (take k g) i 0 < 2 ^ 64
fits_front k g fits i =
    elim (cases_lt i k) [
      | inl h ↦ subst (λ x. x < 2 ^ 64) (sym (get_or-take k g i 0 h)) (fits i)
      | inr h ↦ subst (λ x. x < 2 ^ 64) (sym (get_or_past (take k g) i 0 (omega (arith, length-take k g)))) (omega arith)
    ]

fits_back : (k : ℕ) (g : List ℕ) → ((i : ℕ) → get_or g i 0 < 2 ^ 64) → (i : ℕ) → get_or (drop k g) i 0 < 2 ^ 64
fits_back k g fits i = subst (λ x. x < 2 ^ 64) (sym (get_or-drop k g i 0)) (fits (k + i))

-- the planes of blocks that stand for the same graph
module _ (n : ℕ) (g h : List ℕ) (first : IsFormed n g) (second : IsFormed n h) where
  pub joined_same :
      ((i : ℕ) → get_or g i 0 < 2 ^ 64)
      → ((i : ℕ) → get_or h i 0 < 2 ^ 64)
      → SameGraph (block_graph n g) (block_graph n h)
      → joined_plane n g ≡ joined_plane n h
  joined_same g_fits h_fits same =
      same_tables n (width_of n) (joined_plane n g) (joined_plane n h) first.joined second.joined same.joined
      (fits_front (plane_len n) g g_fits) (fits_front (plane_len n) h h_fits)

  pub past_same :
      ((i : ℕ) → get_or g i 0 < 2 ^ 64)
      → ((i : ℕ) → get_or h i 0 < 2 ^ 64)
      → SameGraph (block_graph n g) (block_graph n h)
      → past_plane n g ≡ past_plane n h
  past_same g_fits h_fits same =
      same_tables n (width_of n) (past_plane n g) (past_plane n h) first.past second.past same.past
      (fits_back (plane_len n) g g_fits) (fits_back (plane_len n) h h_fits)

-- and back
pub planes_same : (n : ℕ) (g h : List ℕ) → joined_plane n g ≡ joined_plane n h → past_plane n g ≡ past_plane n h → SameGraph (block_graph n g) (block_graph n h)
planes_same n g h p q =
    record {
      joined = λ s t. (subst (λ x. HasArc x n (width_of n) s t) p, subst (λ x. HasArc x n (width_of n) s t) (sym p));
      past = λ s t. (subst (λ x. HasArc x n (width_of n) s t) q, subst (λ x. HasArc x n (width_of n) s t) (sym q));
    }
