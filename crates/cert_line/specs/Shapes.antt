-- What one line says: its tokens, and what is due in each place.
use Rattle.std.specs.Prelude.{ℕ, List, [], ◌∷◌, length, map, zip, drop, slice_index, slice_index_or, Bool, true, false, ◌&&◌, ◌||◌, ◌==◌, not, nat_lt, nat_le, Option, Some, None, bytes_eq, unwrap_or, if◌then◌else◌}
use Rattle.std.specs.List.{list_all, list_any}
use Rattle.std.specs.Str.Parse.{digits_value}
use Rattle.cert_line.specs.declared.shapes.Place.{Place}
use Rattle.cert_line.specs.declared.shapes.Place.TheVariants as place
use Rattle.cert_line.specs.declared.shapes.Tail.{Tail}
use Rattle.cert_line.specs.declared.shapes.Tail.TheVariants as tail
use Rattle.cert_line.specs.declared.faults.TextKind.{TextKind}
use Rattle.cert_line.specs.declared.faults.TextKind.TheVariants as kind
use Rattle.auto_core.specs.Digits.{is_digit}
use Rattle.cert_value.specs.Text.{Line, spelled}
use Rattle.cert_value.specs.WellFormed.{has_some}

-- The token is `0`, or a digit other than 0 followed by at most eight digits.
abbrev pub is_number : List ℕ → Bool
is_number token =
    nat_lt 0 (length token)
    && (nat_lt (length token) 10
    && ((nat_lt (length token) 2 || not (slice_index token 0 == 48))
    && list_all is_digit token))

-- The number that the token writes, if it writes one.
abbrev pub number_of : List ℕ → Option ℕ
number_of token = if is_number token then Some (digits_value 10 token) else None

-- What the token writes, and 0 where it writes no number.
abbrev pub value : List ℕ → ℕ
value token = unwrap_or (number_of token) 0

-- A token is empty.
abbrev pub has_empty : Line → Bool
has_empty tokens = list_any (λ token. length token == 0) tokens

-- What stands at the place is not another word than the one that is due.
abbrev pub has_word : Place → List ℕ → Bool
has_word (place.Word keyword) token = bytes_eq token (spelled keyword)
has_word (place.Number) token = true

-- What stands at the place is a number, where one is due.
abbrev pub has_number : Place → List ℕ → Bool
has_number (place.Word keyword) token = true
has_number (place.Number) token = is_number token

-- No place that the line has holds another word than the one that is due.
abbrev pub fits : List Place → Line → Bool
fits places tokens = list_all (λ x. has_word x.0 x.1) (zip places tokens)

-- Nothing may follow the places.
abbrev pub is_closed : Tail → Bool
is_closed (tail.Nothing) = true
is_closed (tail.Numbers) = false
is_closed (tail.SomeNumbers) = false
is_closed (tail.Pairs k) = false

-- Every token in a number's place is a number. What follows the places is in numbers' places,
-- unless nothing may follow.
abbrev pub has_numbers : List Place → Tail → Line → Bool
has_numbers places tail tokens =
    list_all (λ x. has_number x.0 x.1) (zip places tokens)
    && (is_closed tail || list_all is_number (drop (length places) tokens))

-- The tokens are an even number.
abbrev pub pair_up : Line → Bool
pair_up [] = true
pair_up (token ∷ []) = false
pair_up (token ∷ other ∷ tokens) = pair_up tokens

-- These tokens may follow the places.
abbrev pub may_follow : Tail → Line → Bool
may_follow (tail.Nothing) tokens = not (has_some tokens)
may_follow (tail.Numbers) tokens = true
may_follow (tail.SomeNumbers) tokens = has_some tokens
may_follow (tail.Pairs k) tokens = has_some (drop k tokens) && pair_up (drop k tokens)

-- There are neither too few nor too many tokens.
abbrev pub has_count : List Place → Tail → Line → Bool
has_count places tail tokens =
    nat_le (length places) (length tokens) && may_follow tail (drop (length places) tokens)

-- What is wrong with the line, if these places and this tail are due.
abbrev pub line_fault : List Place → Tail → Line → Option TextKind
line_fault places tail tokens =
    if has_empty tokens then Some kind.Shape
    else (if not (fits places tokens) then Some kind.Shape
    else (if not (has_numbers places tail tokens) then Some kind.Number
    else (if not (has_count places tail tokens) then Some kind.Shape else None)))

-- What the token with this number writes.
abbrev pub value_at : Line → ℕ → ℕ
value_at tokens k = value (slice_index_or tokens k [])

-- What the tokens from this number on write.
abbrev pub values_from : ℕ → Line → List ℕ
values_from k tokens = map value (drop k tokens)
