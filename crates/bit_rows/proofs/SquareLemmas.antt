-- Squares exchanged size by size transpose a block.
use Rattle.std.proofs.Common.{◌≡◌, ℕ, ◌+◌, ◌-◌, ◌*◌, ◌/◌, ◌%◌, ◌^◌, ◌<◌, ◌≤◌, inl, inr, List, length, slice_index, slice_set, refl, sym, ap, ap₂, ◌∙◌, subst, arith, bit_and, bit_or, w64}
use Rattle.std.specs.Int.{bit_at, bit_not}
use Rattle.std.proofs.lemmas.Bool.{cases_eq}
use Rattle.std.proofs.lemmas.List.{get_or-set_same, get_or-set_other, length-set}
use Rattle.bit_rows.specs.Blocks.{bit_in, IsSquareSize, IsMask, IsExchanged, IsTransposed}
use Rattle.bit_rows.proofs.SquareWordLemmas.{at_each_size, first_same, first_above, second_below, second_same}

-- the row of the other square
abbrev Partner : ℕ → Type 0
Partner h = (k : ℕ) → k < 64 → k / h % 2 ≡ 0 → ((k + h) / h % 2 ≡ 1) × (k + h < 64)

pub partner : (h : ℕ) → IsSquareSize h → Partner h
partner = at_each_size Partner
    (λ k near even. (omega arith, omega arith))
    (λ k near even. (omega arith, omega arith))
    (λ k near even. (omega arith, omega arith))
    (λ k near even. (omega arith, omega arith))
    (λ k near even. (omega arith, omega arith))
    (λ k near even. (omega arith, omega arith))

-- a row of a second square is a partner
abbrev PartnerOf : ℕ → Type 0
PartnerOf h = (a : ℕ) → a < 64 → a / h % 2 ≡ 1 → (h ≤ a) × ((a - h) / h % 2 ≡ 0)

partner_of : (h : ℕ) → IsSquareSize h → PartnerOf h
partner_of = at_each_size PartnerOf
    (λ a near odd. (omega arith, omega arith))
    (λ a near odd. (omega arith, omega arith))
    (λ a near odd. (omega arith, omega arith))
    (λ a near odd. (omega arith, omega arith))
    (λ a near odd. (omega arith, omega arith))
    (λ a near odd. (omega arith, omega arith))

-- The pair of rows as the step writes it.
abbrev pub first_word : ℕ → ℕ → ℕ → ℕ → ℕ
first_word upper lower h mask = bit_or (bit_and upper mask) (bit_and lower mask * 2 ^ h % 2 ^ 64)

abbrev pub second_word : ℕ → ℕ → ℕ → ℕ → ℕ
second_word upper lower h mask = bit_or (bit_and (upper / 2 ^ h) mask) (bit_and lower (bit_not w64 mask))

pub exchanged_first :
    (old : List ℕ) (k h mask second : ℕ)
    → length old ≡ 64
    → IsSquareSize h
    → IsMask h mask
    → k < 64
    → k / h % 2 ≡ 0
    → IsExchanged old (slice_set (slice_set old k (first_word (slice_index old k) (slice_index old (k + h)) h mask)) (k + h) second) h k
exchanged_first old k h mask second len size is k_in even =
    let odd : (k + h) / h % 2 ≡ 1 = (partner h size k k_in even).0 in
    let apart : ¬ (k ≡ k + h) = λ e. let x : (k + h) / h % 2 ≡ 0 = ap (λ y. y / h % 2) (sym e) ∙ even in omega arith in
    let first = first_word (slice_index old k) (slice_index old (k + h)) h mask in
    let now = slice_set old k first in
    let word : slice_index (slice_set now (k + h) second) k ≡ first = get_or-set_other now (k + h) k second 0 apart ∙ get_or-set_same old k first 0 (omega arith) in
    record {
      same = λ b near e. ap (λ w. bit_at w b) word ∙ first_same (slice_index old k) (slice_index old (k + h)) mask h b size is near (e ∙ even);
      above = λ x b near later. ap (λ w. bit_at w b) word ∙ first_above (slice_index old k) (slice_index old (k + h)) mask h b size is near later;
      below = λ not_even b near x. absurd (omega arith);
    }

pub exchanged_second :
    (old : List ℕ) (k h mask first : ℕ)
    → length old ≡ 64
    → IsSquareSize h
    → IsMask h mask
    → mask < 2 ^ 64
    → k < 64
    → k / h % 2 ≡ 0
    → IsExchanged old (slice_set (slice_set old k first) (k + h) (second_word (slice_index old k) (slice_index old (k + h)) h mask)) h (k + h)
exchanged_second old k h mask first len size is fits k_in even =
    let next = partner h size k k_in even in
    let odd : (k + h) / h % 2 ≡ 1 = next.0 in
    let below : k + h < 64 = next.1 in
    let back : k + h - h ≡ k = omega arith in
    let second = second_word (slice_index old k) (slice_index old (k + h)) h mask in
    let now = slice_set old k first in
    let in_now : k + h < length now = omega (arith, length-set old k first, len) in
    let word : slice_index (slice_set now (k + h) second) (k + h) ≡ second = get_or-set_same now (k + h) second 0 in_now in
    record {
      same = λ b near e. ap (λ w. bit_at w b) word ∙ second_same (slice_index old k) (slice_index old (k + h)) mask h b is fits near (e ∙ odd);
      above = λ x b near y. absurd (omega arith);
      below = λ x b near e.
          ap (λ w. bit_at w b) word
          ∙ second_below (slice_index old k) (slice_index old (k + h)) mask h b is fits near e
          ∙ ap (λ r. bit_in old r (b + h)) (sym back);
    }

-- a row of the new block
exchanged_kept : (old now new : List ℕ) (h a : ℕ) → slice_index new a ≡ slice_index now a → IsExchanged old now h a → IsExchanged old new h a
exchanged_kept old now new h a row is = record {
  same = λ b near e. ap (λ w. bit_at w b) row ∙ is.same b near e;
  above = λ even b near e. ap (λ w. bit_at w b) row ∙ is.above even b near e;
  below = λ odd b near e. ap (λ w. bit_at w b) row ∙ is.below odd b near e;
}

-- rows of the old block
exchanged_from :
    (old now new : List ℕ) (h a : ℕ)
    → slice_index now a ≡ slice_index old a
    → (a / h % 2 ≡ 0 → slice_index now (a + h) ≡ slice_index old (a + h))
    → (a / h % 2 ≡ 1 → slice_index now (a - h) ≡ slice_index old (a - h))
    → IsExchanged now new h a
    → IsExchanged old new h a
exchanged_from old now new h a row next last is = record {
  same = λ b near e. is.same b near e ∙ ap (λ w. bit_at w b) row;
  above = λ even b near e. is.above even b near e ∙ ap (λ w. bit_at w (b - h)) (next even);
  below = λ odd b near e. is.below odd b near e ∙ ap (λ w. bit_at w (b + h)) (last odd);
}

-- The pairs of rows whose first row stands before k are exchanged, and the others are as they were.
pub record IsPartly (old now : List ℕ) (h k : ℕ) : Type 0 where
  pub done : (a : ℕ) → a < 64 → a / h % 2 ≡ 0 → a < k → IsExchanged old now h a × IsExchanged old now h (a + h)
  pub rest : (a : ℕ) → a < 64 → a / h % 2 ≡ 0 → k ≤ a → (slice_index now a ≡ slice_index old a) × (slice_index now (a + h) ≡ slice_index old (a + h))

pub partly_none : (old : List ℕ) (h : ℕ) → IsPartly old old h 0
partly_none old h = record { done = λ a near even before. absurd (omega arith); rest = λ a near even from. (refl, refl) }

pub partly_passed : (old now : List ℕ) (h k : ℕ) → ¬ (k / h % 2 ≡ 0) → IsPartly old now h k → IsPartly old now h (k + 1)
partly_passed old now h k odd is = record {
  done = λ a near even before. elim (cases_eq a k) [
    | inl e ↦ absurd (odd (ap (λ x. x / h % 2) (sym e) ∙ even))
    | inr apart ↦ is.done a near even (omega arith)
  ];
  rest = λ a near even from. is.rest a near even (omega arith);
}

pub partly_more :
    (old now new : List ℕ) (h k : ℕ)
    → IsSquareSize h
    → k < 64
    → k / h % 2 ≡ 0
    → IsPartly old now h k
    → IsExchanged now new h k
    → IsExchanged now new h (k + h)
    → ((a : ℕ) → ¬ (a ≡ k) → ¬ (a ≡ k + h) → slice_index new a ≡ slice_index now a)
    → IsPartly old new h (k + 1)
partly_more old now new h k size k_in k_even is first second others =
    let own = is.rest k k_in k_even (omega arith) in
    let k_next = partner h size k k_in k_even in
    let no_partner : (a : ℕ) → a / h % 2 ≡ 0 → ¬ (a ≡ k + h) = λ a even e. let x : (k + h) / h % 2 ≡ 0 = ap (λ y. y / h % 2) (sym e) ∙ even in let y = k_next.0 in omega arith in
    let not_first : (a : ℕ) → a < 64 → a / h % 2 ≡ 0 → ¬ (a + h ≡ k) = λ a near even e. let x : (a + h) / h % 2 ≡ 0 = ap (λ y. y / h % 2) e ∙ k_even in let y = (partner h size a near even).0 in omega arith in
    record {
      done = λ a near even before. elim (cases_eq a k) [
        | inl e ↦ subst (λ x. IsExchanged old new h x × IsExchanged old new h (x + h)) (sym e) (
          exchanged_from old now new h k own.0 (λ x. own.1) (λ odd. absurd (omega arith)) first,
          exchanged_from old now new h (k + h) own.1 (λ even_next. let odd = k_next.0 in absurd (omega arith))
              (λ odd. let back : k ≡ k + h - h = omega arith in subst (λ r. slice_index now r ≡ slice_index old r) back own.0) second,
        )
        | inr apart ↦
            let was = is.done a near even (omega arith) in (
              exchanged_kept old now new h a (others a apart (no_partner a even)) was.0,
              exchanged_kept old now new h (a + h) (others (a + h) (not_first a near even) (λ e. apart (omega arith))) was.1,
            )
      ];
      rest = λ a near even from.
          let was = is.rest a near even (omega arith) in (
            others a (λ e. omega arith) (no_partner a even) ∙ was.0,
            others (a + h) (not_first a near even) (λ e. omega arith) ∙ was.1,
          );
    }

-- each row is one of such a pair
pub partly_all :
    (old now : List ℕ) (h k : ℕ) → IsSquareSize h → 64 ≤ k → IsPartly old now h k → (a : ℕ) → a < 64 → IsExchanged old now h a
partly_all old now h k size upto is a near = elim (cases_eq (a / h % 2) 0) [
  | inl even ↦ (is.done a near even (omega arith)).0
  | inr odd ↦
      let one : a / h % 2 ≡ 1 = omega arith in
      let first = partner_of h size a near one in
      let le = first.0 in
      let back : a - h + h ≡ a = omega arith in
      subst (λ r. IsExchanged old now h r) back (is.done (a - h) (omega arith) first.1 (omega arith)).1
]

-- Rows and columns are exchanged as far as their places in the squares of size h tell.
abbrev pub IsStage : List ℕ → List ℕ → ℕ → Type 0
IsStage old now h = (a b : ℕ) → a < 64 → b < 64 → bit_in now a b ≡ bit_in old (b / h * h + a % h) (a / h * h + b % h)

pub stage_none : (old : List ℕ) → IsStage old old 64
stage_none old a b a_in b_in = ap₂ (bit_in old) (omega arith) (omega arith)

-- where a bit of the squares of the double size stood
abbrev SameSide : ℕ → Type 0
SameSide h = (a b : ℕ) → a < 64 → b < 64 → b / h % 2 ≡ a / h % 2 → b / (h * 2) * (h * 2) + a % (h * 2) ≡ b / h * h + a % h

same_side : (h : ℕ) → IsSquareSize h → SameSide h
same_side = at_each_size SameSide
    (λ a b a_in b_in e. omega arith)
    (λ a b a_in b_in e. omega arith)
    (λ a b a_in b_in e. omega arith)
    (λ a b a_in b_in e. omega arith)
    (λ a b a_in b_in e. omega arith)
    (λ a b a_in b_in e. omega arith)

abbrev OtherSide : ℕ → Type 0
OtherSide h =
    (a b : ℕ)
    → a < 64
    → b < 64
    → a / h % 2 ≡ 0
    → b / h % 2 ≡ 1
    → (a + h < 64)
    × (b - h < 64)
    × ((b - h) / (h * 2) * (h * 2) + (a + h) % (h * 2) ≡ b / h * h + a % h)
    × ((a + h) / (h * 2) * (h * 2) + (b - h) % (h * 2) ≡ a / h * h + b % h)

other_side : (h : ℕ) → IsSquareSize h → OtherSide h
other_side = at_each_size OtherSide
    (λ a b a_in b_in even odd. (omega arith, omega arith, omega arith, omega arith))
    (λ a b a_in b_in even odd. (omega arith, omega arith, omega arith, omega arith))
    (λ a b a_in b_in even odd. (omega arith, omega arith, omega arith, omega arith))
    (λ a b a_in b_in even odd. (omega arith, omega arith, omega arith, omega arith))
    (λ a b a_in b_in even odd. (omega arith, omega arith, omega arith, omega arith))
    (λ a b a_in b_in even odd. (omega arith, omega arith, omega arith, omega arith))

pub stage_more :
    (old now new : List ℕ) (h : ℕ) → IsSquareSize h → IsStage old now (h * 2) → ((a : ℕ) → a < 64 → IsExchanged now new h a) → IsStage old new h
stage_more old now new h size is step a b a_in b_in =
    let row = step a a_in in
    elim (cases_eq (b / h % 2) (a / h % 2)) [
      | inl e ↦ row.same b b_in e ∙ is a b a_in b_in ∙ ap₂ (bit_in old) (same_side h size a b a_in b_in e) (same_side h size b a b_in a_in (sym e))
      | inr apart ↦ elim (cases_eq (a / h % 2) 0) [
        | inl even ↦
            let odd : b / h % 2 ≡ 1 = omega arith in
            let at = other_side h size a b a_in b_in even odd in
            row.above even b b_in odd ∙ is (a + h) (b - h) at.0 at.1 ∙ ap₂ (bit_in old) at.2 at.3
        | inr x ↦
            let odd : a / h % 2 ≡ 1 = omega arith in
            let even : b / h % 2 ≡ 0 = omega arith in
            let at = other_side h size b a b_in a_in even odd in
            row.below odd b b_in even ∙ is (a - h) (b + h) at.1 at.0 ∙ ap₂ (bit_in old) at.3 at.2
      ]
    ]

pub stage_all : (old now : List ℕ) → IsStage old now 1 → IsTransposed old now
stage_all old now is a b a_in b_in = is a b a_in b_in ∙ ap₂ (bit_in old) (omega arith) (omega arith)
