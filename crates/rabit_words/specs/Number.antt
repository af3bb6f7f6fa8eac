-- Numbers as they are spelled in words.
use Rattle.std.specs.Prelude.{ℕ, Bool, true, false, not, ◌&&◌, ◌==◌, option_map, nat_le, List, [], ◌∷◌, Option, Some, None, if◌then◌else◌}
use Rattle.std.specs.List.{list_all}
use Rattle.std.specs.Str.Parse.{digits_value}
use Rattle.auto_core.specs.Digits.{is_digit}

-- There is a first, and it is no zero before others.
abbrev pub starts_well : List ℕ → Bool
starts_well [] = false
starts_well (c ∷ []) = true
starts_well (c ∷ d ∷ more) = not (c == 48)

-- Decimal digits, one or more, without a sign, and without a zero before others.
abbrev pub is_spelled : List ℕ → Bool
is_spelled text = starts_well text && list_all is_digit text

-- The number that is spelled so, if it lies from `low` to `high`.
abbrev pub number_between : ℕ → ℕ → List ℕ → Option ℕ
number_between low high text =
    if is_spelled text && (nat_le low (digits_value 10 text) && nat_le (digits_value 10 text) high)
    then Some (digits_value 10 text) else None

-- The same of an option's word, or the usual number where there is none.
abbrev pub number_or : ℕ → ℕ → ℕ → Option (List ℕ) → Option ℕ
number_or usual low high None = Some usual
number_or usual low high (Some text) = number_between low high text

-- The same where an option's word may not stand at all.
abbrev pub number_if_named : ℕ → ℕ → Option (List ℕ) → Option (Option ℕ)
number_if_named low high None = Some None
number_if_named low high (Some text) = option_map Some (number_between low high text)
