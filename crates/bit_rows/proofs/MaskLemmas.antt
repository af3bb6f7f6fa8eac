-- The masks of the six sizes of squares, seen bit by bit.
use Rattle.std.proofs.Common.{◌≡◌, ℕ, zero, suc, ◌-◌, ◌/◌, ◌%◌, ◌<◌, ◌&&◌, Bool, true, eqb, inl, inr, refl, sym, subst, arith}
use Rattle.std.specs.Int.{bit_at}
use Rattle.std.proofs.lemmas.Bool.{cases_eq, and_parts, eqb-true}
use Rattle.bit_rows.specs.Blocks.{IsMask}

-- whether the first columns are as they should be
is_mask_upto : ℕ → ℕ → ℕ → Bool
is_mask_upto h mask zero = true
is_mask_upto h mask (suc n) = eqb (bit_at mask n) (1 - n / h % 2) && is_mask_upto h mask n

mask_upto : (h mask n : ℕ) → is_mask_upto h mask n ≡ true → (b : ℕ) → b < n → bit_at mask b ≡ 1 - b / h % 2
unfolding is_mask_upto
mask_upto h mask zero e b below = absurd (omega arith)
mask_upto h mask (suc n) e b below =
    let both = and_parts (eqb (bit_at mask n) (1 - n / h % 2)) (is_mask_upto h mask n) e in
    elim (cases_eq b n) [
      | inl is ↦ subst (λ x. bit_at mask x ≡ 1 - x / h % 2) (sym is) (eqb-true (bit_at mask n) (1 - n / h % 2) both.0)
      | inr apart ↦ mask_upto h mask n both.1 b (omega arith)
    ]

pub mask_32 : IsMask 32 4294967295
unfolding is_mask_upto
mask_32 = mask_upto 32 4294967295 64 refl

pub mask_16 : IsMask 16 281470681808895
unfolding is_mask_upto
mask_16 = mask_upto 16 281470681808895 64 refl

pub mask_8 : IsMask 8 71777214294589695
unfolding is_mask_upto
mask_8 = mask_upto 8 71777214294589695 64 refl

pub mask_4 : IsMask 4 1085102592571150095
unfolding is_mask_upto
mask_4 = mask_upto 4 1085102592571150095 64 refl

pub mask_2 : IsMask 2 3689348814741910323
unfolding is_mask_upto
mask_2 = mask_upto 2 3689348814741910323 64 refl

pub mask_1 : IsMask 1 6148914691236517205
unfolding is_mask_upto
mask_1 = mask_upto 1 6148914691236517205 64 refl
