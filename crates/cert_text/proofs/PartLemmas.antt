-- The first lines of bytes, by themselves.
use Rattle.std.proofs.Common.{◌≡◌, ℕ, zero, suc, ◌<◌, ◌≤◌, ◌+◌, ◌-◌, ◌==◌, Bool, true, false, List, [], ◌∷◌, ◌++◌, length, map, take, drop, refl, sym, ap, ◌∙◌, subst, append_assoc, arith}
use Rattle.std.specs.List.{onto_first, join_with_byte}
use Rattle.std.proofs.lemmas.List.{take-take, take-map, take_all, take-append-le, length-take-le, length-append, map-append}
use Rattle.std.proofs.lemmas.List.Splits.{slice_split-cons_yes, slice_split-cons_no, join_with_byte-slice_split}
use Rattle.cert_value.specs.Tokens.{tokens_of}
use Rattle.cert_text.specs.Grammar.{lines_of}
use Rattle.cert_text.proofs.ReadLemmas.{split_cons}
use Rattle.cert_text.specs.FirstFaults.{pieces, whole_lines}
use Rattle.cert_text.specs.Admitted.{with_ends, first_part}
use Rattle.cert_text.proofs.LineLemmas.{pieces_count, lines_count}
use Rattle.cert_text.proofs.ReaderLemmas.{bare}

-- The first pieces, each with its LF, are cut into themselves and an empty piece.
abbrev CutAgain : ℕ → List (List ℕ) → Type 0
CutAgain n ps = n < length ps → pieces (with_ends (take n ps)) ≡ take n ps ++ [] ∷ []

cut_newline : (ps : List (List ℕ)) → ((n : ℕ) → CutAgain n ps) → (n : ℕ) → CutAgain n ([] ∷ ps)
cut_newline ps again zero h = refl
cut_newline ps again (suc n) h =
    slice_split-cons_yes (λ b. b == 10) 10 (with_ends (take n ps)) refl ∙ ap (λ xs. [] ∷ xs) (again n (omega arith))

cut_byte : (b : ℕ) (p : List ℕ) (ps : List (List ℕ)) → (b == 10) ≡ false → ((n : ℕ) → CutAgain n (p ∷ ps)) → (n : ℕ) → CutAgain n ((b ∷ p) ∷ ps)
cut_byte b p ps plain again zero h = refl
cut_byte b p ps plain again (suc n) h =
    slice_split-cons_no (λ b. b == 10) b (p ++ 10 ∷ with_ends (take n ps)) plain ∙ ap (λ xs. onto_first b xs) (again (suc n) (omega arith))

cut_on : (b : ℕ) (bs : List ℕ) (is : Bool) → (b == 10) ≡ is → ((n : ℕ) → CutAgain n (pieces bs)) → (n : ℕ) → CutAgain n (pieces (b ∷ bs))
cut_on b bs true e again n = subst (CutAgain n) (sym (slice_split-cons_yes (λ b. b == 10) b bs e)) (cut_newline (pieces bs) again n)
cut_on b bs false e again n =
    let (p, ps, parts) = split_cons (λ b. b == 10) bs in
    let All : List (List ℕ) → Type 0 = λ xs. (n : ℕ) → CutAgain n xs in
    subst (CutAgain n) (sym (slice_split-cons_no (λ b. b == 10) b bs e ∙ ap (λ xs. onto_first b xs) parts))
    (cut_byte b p ps e (subst All parts again) n)

cut_again : (bytes : List ℕ) (n : ℕ) → CutAgain n (pieces bytes)
cut_again [] zero h = refl
cut_again [] (suc n) h = absurd (omega arith)
cut_again (b ∷ bs) n h = cut_on b bs (b == 10) refl (cut_again bs) n h

-- the first whole lines are the first pieces
first_pieces : (n : ℕ) (bytes : List ℕ) → n ≤ length (whole_lines bytes) → take n (whole_lines bytes) ≡ take n (pieces bytes)
first_pieces n bytes h = let count = pieces_count bytes in take-take n (length (pieces bytes) - 1) (pieces bytes) (omega (arith, count, h))

pub part_pieces : (n : ℕ) (bytes : List ℕ) → n ≤ length (whole_lines bytes) → pieces (first_part n bytes) ≡ take n (whole_lines bytes) ++ [] ∷ []
part_pieces n bytes h =
    let count = pieces_count bytes in
    let same = first_pieces n bytes h in
    ap (λ ps. pieces (with_ends ps)) same ∙ cut_again bytes n (omega (arith, count, h)) ∙ ap (λ ps. ps ++ [] ∷ []) (sym same)

-- The lines of the first part are the first lines, and nothing after them.
pub part_lines : (n : ℕ) (bytes : List ℕ) → n ≤ length (whole_lines bytes) → lines_of (first_part n bytes) ≡ take n (lines_of bytes) ++ bare
part_lines n bytes h =
    ap (λ ps. map tokens_of ps) (part_pieces n bytes h)
    ∙ map-append tokens_of (take n (whole_lines bytes)) ([] ∷ [])
    ∙ ap (λ ps. map tokens_of ps ++ bare) (first_pieces n bytes h)
    ∙ ap (λ ls. ls ++ bare) (sym (take-map tokens_of n (pieces bytes)))

pub part_count : (n : ℕ) (bytes : List ℕ) → n ≤ length (whole_lines bytes) → length (lines_of (first_part n bytes)) ≡ n + 1
part_count n bytes h =
    let count = lines_count bytes in
    ap length (part_lines n bytes h)
    ∙ length-append (take n (lines_of bytes)) bare
    ∙ ap (λ k. k + 1) (length-take-le n (lines_of bytes) (omega (arith, count, h)))

pub part_begins : (n : ℕ) (bytes : List ℕ) → n ≤ length (whole_lines bytes) → take n (lines_of (first_part n bytes)) ≡ take n (lines_of bytes)
part_begins n bytes h =
    let count = lines_count bytes in
    let len = length-take-le n (lines_of bytes) (omega (arith, count, h)) in
    ap (λ ls. take n ls) (part_lines n bytes h)
    ∙ take-append-le n (take n (lines_of bytes)) bare (omega (arith, len))
    ∙ take-take n n (lines_of bytes) (omega arith)

-- The whole lines of the first part.
pub part_whole : (n : ℕ) (bytes : List ℕ) → n ≤ length (whole_lines bytes) → whole_lines (first_part n bytes) ≡ take n (whole_lines bytes)
part_whole n bytes h =
    let front = take n (whole_lines bytes) in
    let len : length front ≡ n = length-take-le n (whole_lines bytes) h in
    let both = length-append front ([] ∷ []) in
    let count : length (front ++ [] ∷ []) - 1 ≡ length front = omega (arith, both) in
    ap (λ ps. take (length ps - 1) ps) (part_pieces n bytes h)
    ∙ ap (λ k. take k (front ++ [] ∷ [])) count
    ∙ take-append-le (length front) front ([] ∷ []) (omega arith)
    ∙ take_all (length front) front (omega arith)

join_part : (n : ℕ) (ps : List (List ℕ)) → n < length ps → join_with_byte 10 ps ≡ with_ends (take n ps) ++ join_with_byte 10 (drop n ps)
join_part zero ps h = refl
join_part (suc n) [] h = absurd (omega arith)
join_part (suc n) (p ∷ []) h = absurd (omega arith)
join_part (suc n) (p ∷ q ∷ qs) h =
    ap (λ xs. p ++ 10 ∷ xs) (join_part n (q ∷ qs) (omega arith))
    ∙ sym (append_assoc p (10 ∷ with_ends (take n (q ∷ qs))) (join_with_byte 10 (drop n (q ∷ qs))))

-- The bytes are their first part and more.
pub part_of : (n : ℕ) (bytes : List ℕ) → n ≤ length (whole_lines bytes) → (more : List ℕ) × (bytes ≡ first_part n bytes ++ more)
part_of n bytes h =
    let count = pieces_count bytes in
    let more = join_with_byte 10 (drop n (pieces bytes)) in (
      more,
      sym (join_with_byte-slice_split 10 bytes)
          ∙ join_part n (pieces bytes) (omega (arith, count, h))
          ∙ ap (λ ps. with_ends ps ++ more) (sym (first_pieces n bytes h)),
    )
