-- Bits of words that are shifted and masked.
use Rattle.std.proofs.Common.{◌≡◌, ℕ, ◌+◌, ◌-◌, ◌*◌, ◌/◌, ◌%◌, ◌^◌, ◌<◌, ◌≤◌, ◌⊎◌, inl, inr, sym, ap, ◌∙◌, subst, arith, bit_and, bit_or, w64}
use Rattle.std.specs.Int.{bit_at, bit_not}
use Rattle.std.proofs.lemmas.Bool.{cases_lt}
use Rattle.std.proofs.lemmas.Nat.{shr-shr, pow_pos}
use Rattle.std.proofs.lemmas.Nat.Bits.{bit_at_and, bit_at_or, bit_at_not, bit_at-lt, bit_at-zero, bit_at_cat_low, bit_at_cat_high}
use Rattle.bit_rows.specs.Blocks.{IsMask, IsSquareSize}

-- A fact of each size of squares, from its six instances.
pub at_each_size : (P : ℕ → Type 0) → P 32 → P 16 → P 8 → P 4 → P 2 → P 1 → (h : ℕ) → IsSquareSize h → P h
at_each_size P a b c d e f h is = elim is [
  | inl x ↦ subst P (sym x) a
  | inr r1 ↦ elim r1 [
    | inl x ↦ subst P (sym x) b
    | inr r2 ↦ elim r2 [
      | inl x ↦ subst P (sym x) c
      | inr r3 ↦ elim r3 [
        | inl x ↦ subst P (sym x) d
        | inr r4 ↦ elim r4 [ inl x ↦ subst P (sym x) e | inr x ↦ subst P (sym x) f ]
      ]
    ]
  ]
]

-- the column before which a mask's column stands
abbrev Earlier : ℕ → Type 0
Earlier h = (b : ℕ) → b < 64 → b / h % 2 ≡ 0 → (b < h) ⊎ ((h ≤ b) × ((b - h) / h % 2 ≡ 1))

earlier : (h : ℕ) → IsSquareSize h → Earlier h
earlier = at_each_size Earlier
    (λ b near even. elim (cases_lt b 32) [ inl lt ↦ inl lt | inr le ↦ inr (le, omega arith) ])
    (λ b near even. elim (cases_lt b 16) [ inl lt ↦ inl lt | inr le ↦ inr (le, omega arith) ])
    (λ b near even. elim (cases_lt b 8) [ inl lt ↦ inl lt | inr le ↦ inr (le, omega arith) ])
    (λ b near even. elim (cases_lt b 4) [ inl lt ↦ inl lt | inr le ↦ inr (le, omega arith) ])
    (λ b near even. elim (cases_lt b 2) [ inl lt ↦ inl lt | inr le ↦ inr (le, omega arith) ])
    (λ b near even. elim (cases_lt b 1) [ inl lt ↦ inl lt | inr le ↦ inr (le, omega arith) ])

abbrev Later : ℕ → Type 0
Later h = (b : ℕ) → b < 64 → b / h % 2 ≡ 1 → (h ≤ b) × ((b - h) / h % 2 ≡ 0)

later : (h : ℕ) → IsSquareSize h → Later h
later = at_each_size Later
    (λ b near odd. (omega arith, omega arith))
    (λ b near odd. (omega arith, omega arith))
    (λ b near odd. (omega arith, omega arith))
    (λ b near odd. (omega arith, omega arith))
    (λ b near odd. (omega arith, omega arith))
    (λ b near odd. (omega arith, omega arith))

-- a word shifted down
bit_shr : (n h b : ℕ) → bit_at (n / 2 ^ h) b ≡ bit_at n (b + h)
bit_shr n h b = let e : h + b ≡ b + h = omega arith in ap (λ x. x % 2) (shr-shr n h b) ∙ ap (bit_at n) e

-- a word cut to 64 bits
bit_cut : (n b : ℕ) → b < 64 → bit_at (n % 2 ^ 64) b ≡ bit_at n b
bit_cut n b near =
    let parts : n / 2 ^ 64 * 2 ^ 64 + n % 2 ^ 64 ≡ n = omega arith in
    sym (bit_at_cat_low (n / 2 ^ 64) 64 (n % 2 ^ 64) b near) ∙ ap (λ x. bit_at x b) parts

-- a word shifted up
bit_shl_below : (n h b : ℕ) → b < 64 → b < h → bit_at (n * 2 ^ h % 2 ^ 64) b ≡ 0
bit_shl_below n h b near below =
    let sum : n * 2 ^ h ≡ n * 2 ^ h + 0 = omega arith in
    bit_cut (n * 2 ^ h) b near ∙ ap (λ x. bit_at x b) sum ∙ bit_at_cat_low n h 0 b below ∙ bit_at-zero b

bit_shl_from : (n h b : ℕ) → b < 64 → h ≤ b → bit_at (n * 2 ^ h % 2 ^ 64) b ≡ bit_at n (b - h)
bit_shl_from n h b near from =
    let sum : n * 2 ^ h ≡ n * 2 ^ h + 0 = omega arith in
    bit_cut (n * 2 ^ h) b near ∙ ap (λ x. bit_at x b) sum ∙ bit_at_cat_high n h 0 b (pow_pos h) from

-- what a mask leaves
masked_in : (n mask h b : ℕ) → IsMask h mask → b < 64 → b / h % 2 ≡ 0 → bit_at (bit_and n mask) b ≡ bit_at n b
masked_in n mask h b is near even =
    let one : bit_at mask b ≡ 1 = is b near ∙ ap (λ x. 1 - x) even in
    omega (arith, bit_at_and n mask b, bit_at-lt n b)

masked_out : (n mask h b : ℕ) → IsMask h mask → b < 64 → b / h % 2 ≡ 1 → bit_at (bit_and n mask) b ≡ 0
masked_out n mask h b is near odd =
    let none : bit_at mask b ≡ 0 = is b near ∙ ap (λ x. 1 - x) odd in
    omega (arith, bit_at_and n mask b)

-- the first of two words, whose later columns come from the second
pub first_same :
    (upper lower mask h b : ℕ)
    → IsSquareSize h
    → IsMask h mask
    → b < 64
    → b / h % 2 ≡ 0
    → bit_at (bit_or (bit_and upper mask) (bit_and lower mask * 2 ^ h % 2 ^ 64)) b ≡ bit_at upper b
first_same upper lower mask h b size is near even =
    let left = masked_in upper mask h b is near even in
    let right : bit_at (bit_and lower mask * 2 ^ h % 2 ^ 64) b ≡ 0 = elim (earlier h size b near even) [
      | inl below ↦ bit_shl_below (bit_and lower mask) h b near below
      | inr from ↦ let le = from.0 in bit_shl_from (bit_and lower mask) h b near le ∙ masked_out lower mask h (b - h) is (omega arith) from.1
    ] in
    omega (arith, bit_at_or (bit_and upper mask) (bit_and lower mask * 2 ^ h % 2 ^ 64) b)

pub first_above :
    (upper lower mask h b : ℕ)
    → IsSquareSize h
    → IsMask h mask
    → b < 64
    → b / h % 2 ≡ 1
    → bit_at (bit_or (bit_and upper mask) (bit_and lower mask * 2 ^ h % 2 ^ 64)) b ≡ bit_at lower (b - h)
first_above upper lower mask h b size is near odd =
    let left = masked_out upper mask h b is near odd in
    let from = later h size b near odd in
    let le = from.0 in
    let right = bit_shl_from (bit_and lower mask) h b near le ∙ masked_in lower mask h (b - h) is (omega arith) from.1 in
    omega (arith, bit_at_or (bit_and upper mask) (bit_and lower mask * 2 ^ h % 2 ^ 64) b)

-- the second of the two words, whose earlier columns come from the first
pub second_below :
    (upper lower mask h b : ℕ)
    → IsMask h mask
    → mask < 2 ^ 64
    → b < 64
    → b / h % 2 ≡ 0
    → bit_at (bit_or (bit_and (upper / 2 ^ h) mask) (bit_and lower (bit_not w64 mask))) b ≡ bit_at upper (b + h)
second_below upper lower mask h b is fits near even =
    let one : bit_at mask b ≡ 1 = is b near ∙ ap (λ x. 1 - x) even in
    let left = masked_in (upper / 2 ^ h) mask h b is near even ∙ bit_shr upper h b in
    let other = bit_at_not w64 mask b fits near in
    let right = bit_at_and lower (bit_not w64 mask) b in
    omega (arith, bit_at_or (bit_and (upper / 2 ^ h) mask) (bit_and lower (bit_not w64 mask)) b)

pub second_same :
    (upper lower mask h b : ℕ)
    → IsMask h mask
    → mask < 2 ^ 64
    → b < 64
    → b / h % 2 ≡ 1
    → bit_at (bit_or (bit_and (upper / 2 ^ h) mask) (bit_and lower (bit_not w64 mask))) b ≡ bit_at lower b
second_same upper lower mask h b is fits near odd =
    let none : bit_at mask b ≡ 0 = is b near ∙ ap (λ x. 1 - x) odd in
    let left = masked_out (upper / 2 ^ h) mask h b is near odd in
    let other = bit_at_not w64 mask b fits near in
    let right = bit_at_and lower (bit_not w64 mask) b in
    omega (arith, bit_at_or (bit_and (upper / 2 ^ h) mask) (bit_and lower (bit_not w64 mask)) b, bit_at-lt lower b)
