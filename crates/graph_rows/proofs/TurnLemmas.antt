-- The bits of a word that is turned: those that leave it at the top come in below.
use Rattle.std.proofs.Common.{◌≡◌, ℕ, ◌+◌, ◌-◌, ◌*◌, ◌/◌, ◌%◌, ◌^◌, ◌<◌, ◌↔◌, ◌==◌, inl, inr, true, false, not, [], ◌∷◌, sym, ap, ◌∙◌, subst, arith, bit_or, w64, refl}
use Rattle.std.specs.Int.{bit_at, rotate_left}
use Rattle.std.proofs.lemmas.Bool.{cases_eq, cases_lt, eqb-true, eq-eqb, false≢true, not-false}
use Rattle.std.proofs.lemmas.Nat.{shr-shr, pow_pos}
use Rattle.std.proofs.lemmas.Nat.Bits.{bit_at_or, bit_at-zero, bit_at-pow_other, bit_at_above, bit_at_cat_low, bit_at_cat_high}
use Rattle.auto_core.specs.Rows.{HasBit}
use Rattle.auto_core.proofs.BitLemmas.{bit_past}

-- the bits of a row of one word
pub word_has : (x i : ℕ) → i < 64 → HasBit (x ∷ []) i ↔ (bit_at x i ≡ 1)
word_has x i near =
    let at : i / 64 ≡ 0 = omega arith in
    let place : i % 64 ≡ i = omega arith in
    let word : (bit_at x i == 1) ≡ true → HasBit (x ∷ []) i = rw (at, place) (λ h. h) in
    let back : HasBit (x ∷ []) i → (bit_at x i == 1) ≡ true = rw (at, place) (λ h. h) in (
      λ h. eqb-true (bit_at x i) 1 (back h),
      λ e. word (eq-eqb (bit_at x i) 1 e),
    )

pub word_near : (x i : ℕ) → HasBit (x ∷ []) i → i < 64
word_near x i h = elim (cases_lt i 64) [
  | inl lt ↦ lt
  | inr from ↦ absurd (false≢true (sym (bit_past (x ∷ []) i (omega arith)) ∙ h))
]

-- the two halves of a turned word
upper : (w k i : ℕ) → i < 64 → bit_at (w * 2 ^ k % 2 ^ 64) i ≡ bit_at (w * 2 ^ k + 0) i
upper w k i near =
    let whole : w * 2 ^ k / 2 ^ 64 * 2 ^ 64 + w * 2 ^ k % 2 ^ 64 ≡ w * 2 ^ k + 0 = omega arith in
    sym (bit_at_cat_low (w * 2 ^ k / 2 ^ 64) 64 (w * 2 ^ k % 2 ^ 64) i near) ∙ ap (λ n. bit_at n i) whole

lower : (w k i : ℕ) → bit_at (w / 2 ^ k) i ≡ bit_at w (k + i)
lower w k i = ap (λ n. n % 2) (shr-shr w k i)

turned_from : (w k m i : ℕ) → w < 2 ^ 64 → k < 64 → m ≡ (64 - k) % 64 → i < 64 → bit_at (bit_or (w * 2 ^ k % 2 ^ 64) (w / 2 ^ m)) i ≡ bit_at w ((i + 64 - k) % 64)
turned_from w k m i fits few m_is near =
    let a = bit_at (w * 2 ^ k % 2 ^ 64) i in
    let b = bit_at (w / 2 ^ m) i in
    let both = bit_at_or (w * 2 ^ k % 2 ^ 64) (w / 2 ^ m) i in
    elim (cases_lt i k) [
      | inl below ↦
          let none : a ≡ 0 = upper w k i near ∙ bit_at_cat_low w k 0 i below ∙ bit_at-zero i in
          let there : m + i ≡ (i + 64 - k) % 64 = omega arith in
          let is : b ≡ bit_at w ((i + 64 - k) % 64) = lower w m i ∙ ap (bit_at w) there in
          omega (arith, both, none, is)
      | inr from ↦
          let there : i - k ≡ (i + 64 - k) % 64 = omega arith in
          let is : a ≡ bit_at w ((i + 64 - k) % 64) = upper w k i near ∙ bit_at_cat_high w k 0 i (pow_pos k) from ∙ ap (bit_at w) there in
          elim (cases_eq k 0) [
            | inl e ↦
                let here : m + i ≡ (i + 64 - k) % 64 = omega arith in
                let same : b ≡ bit_at w ((i + 64 - k) % 64) = lower w m i ∙ ap (bit_at w) here in
                omega (arith, both, is, same)
            | inr n ↦
                let none : b ≡ 0 = lower w m i ∙ bit_at_above w 64 (m + i) fits (omega arith) in
                omega (arith, both, is, none)
          ]
    ]

-- a word with one bit
single_has : (q u : ℕ) → HasBit (1 * 2 ^ q % 2 ^ 64 ∷ []) u → u ≡ q
single_has q u bit =
    let near : u < 64 = word_near (1 * 2 ^ q % 2 ^ 64) u bit in
    let has : bit_at (1 * 2 ^ q % 2 ^ 64) u ≡ 1 = (word_has (1 * 2 ^ q % 2 ^ 64) u near).0 bit in
    elim (cases_eq u q) [
      | inl e ↦ e
      | inr n ↦
          let power : 1 * 2 ^ q + 0 ≡ 2 ^ q = omega arith in
          let none : bit_at (1 * 2 ^ q % 2 ^ 64) u ≡ 0 = upper 1 q u near ∙ ap (λ k. bit_at k u) power ∙ bit_at-pow_other q u n in
          absurd (omega (arith, has, none))
    ]

pub no_other_bit : (x q : ℕ) → not (x == 1 * 2 ^ q % 2 ^ 64) ≡ false → (u : ℕ) → HasBit (x ∷ []) u → u ≡ q
no_other_bit x q same u bit =
    let word : x ≡ 1 * 2 ^ q % 2 ^ 64 = eqb-true x (1 * 2 ^ q % 2 ^ 64) (not-false (x == 1 * 2 ^ q % 2 ^ 64) same) in
    single_has q u (subst (λ k. HasBit (k ∷ []) u) word bit)

-- a bit of the turned word is the bit of the word that comes to its place
pub turned_has : (w by i : ℕ) → w < 2 ^ 64 → i < 64 → bit_at (rotate_left w64 w by) i ≡ bit_at w ((i + 64 - by % 64) % 64)
turned_has w by i fits near = turned_from w (by % 64) ((64 - by % 64) % 64) i fits (omega arith) refl near
