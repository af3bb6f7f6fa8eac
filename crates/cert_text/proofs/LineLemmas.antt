use Rattle.std.proofs.Common.{◌≡◌, ℕ, ◌≤◌, ◌+◌, ◌-◌, ◌==◌, List, length, map, take, sym, ap, ◌∙◌, arith}
use Rattle.std.proofs.lemmas.List.{take-take, take-map, length-take-le, length-map}
use Rattle.std.proofs.lemmas.List.Splits.{length-slice_split}
use Rattle.cert_value.specs.Tokens.{tokens_of}
use Rattle.cert_text.specs.Grammar.{lines_of}
use Rattle.cert_text.specs.FirstFaults.{pieces, whole_lines, BeginAlike}

-- there is one piece more than whole lines
pub pieces_count : (bytes : List ℕ) → length (pieces bytes) ≡ length (whole_lines bytes) + 1
pieces_count bytes =
    let some = length-slice_split (λ b. b == 10) bytes in
    let len = length-take-le (length (pieces bytes) - 1) (pieces bytes) (omega arith) in
    omega (arith, some, len)

pub lines_count : (bytes : List ℕ) → length (lines_of bytes) ≡ length (whole_lines bytes) + 1
lines_count bytes = length-map (pieces bytes) tokens_of ∙ pieces_count bytes

-- the first lines, cut at spaces
pub first_lines : (n : ℕ) (bytes : List ℕ) → n ≤ length (whole_lines bytes) → take n (lines_of bytes) ≡ map tokens_of (take n (whole_lines bytes))
first_lines n bytes h =
    let count = pieces_count bytes in
    take-map tokens_of n (pieces bytes)
    ∙ ap (λ ps. map tokens_of ps) (sym (take-take n (length (pieces bytes) - 1) (pieces bytes) (omega arith)))

pub same_lines : (n : ℕ) (bytes others : List ℕ) → BeginAlike n bytes others → take n (lines_of bytes) ≡ take n (lines_of others)
same_lines n bytes others h =
    first_lines n bytes h.lines ∙ ap (λ ls. map tokens_of ls) h.same ∙ sym (first_lines n others h.other_lines)
