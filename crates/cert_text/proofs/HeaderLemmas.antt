-- A wrong heading is a first line that no text has.
use Rattle.std.proofs.Common.{◌≡◌, ℕ, ◌≤◌, List, [], ◌∷◌, ◌++◌, length, map, take, Ok, Err, ◌↔◌, refl, sym, ap, ◌∙◌, arith}
use Rattle.std.specs.List.{join_with_byte}
use Rattle.std.proofs.lemmas.List.{length-append}
use Rattle.cert_line.specs.declared.faults.TextKind.{TextKind}
use Rattle.cert_line.specs.declared.faults.TextKind.TheVariants.{Header}
use Rattle.cert_value.specs.Text.{Line, text_of}
use Rattle.cert_line.specs.Lines.{Said}
use Rattle.cert_text.specs.Grammar.{On, Stopped, after, next_line, lines_of}
use Rattle.cert_text.proofs.BytesLines.{pieces_back}
use Rattle.cert_text.proofs.Reading.{stopped_by}
use Rattle.cert_text.specs.FirstFaults.{whole_lines}
use Rattle.cert_text.proofs.LineLemmas.{lines_count, first_lines}
use Rattle.cert_text.proofs.TextLemmas.{ReadsTexts, lines_alone}
use Rattle.cert_text.proofs.PlaceLemmas.{Faults, Begins, begin_none}

-- The line is the first of a formed value's text.
abbrev pub IsHead : {C : Type 0} → (C → Type 0) → (C → List Line) → Line → Type 0
IsHead {C} Formed own line = (c : C) × (more : List Line) × Formed c × (own c ≡ line ∷ more)

-- The same first lines, cut at spaces, are the same.
whole_alike : (n : ℕ) (bytes others : List ℕ) → n ≤ length (whole_lines bytes) → n ≤ length (whole_lines others)
    → take n (lines_of bytes) ≡ take n (lines_of others) → take n (whole_lines bytes) ≡ take n (whole_lines others)
whole_alike n bytes others h k same =
    let joined : List Line → List (List ℕ) = λ ls. map (λ l. join_with_byte 32 l) ls in
    sym (pieces_back (take n (whole_lines bytes)))
    ∙ ap joined (sym (first_lines n bytes h) ∙ same ∙ first_lines n others k)
    ∙ pieces_back (take n (whole_lines others))

two_lines : (lines : List Line) → 2 ≤ length lines → (line : Line) × (other : Line) × (more : List Line) × (lines ≡ line ∷ other ∷ more)
two_lines [] h = absurd (omega arith)
two_lines (line ∷ []) h = absurd (omega arith)
two_lines (line ∷ other ∷ more) h = (line, other, more, refl)

-- A grammar whose first line is read as a heading: each heading that is taken is a text's first line, and any other line is no heading.
module _ {C H : Type 0} {Formed : C → Type 0} {own : C → List Line} (heading : Line → Said H) (next : On C H)
    (known : ReadsTexts Formed own (next_line heading next))
    (heads : (line : Line) (h : H) → heading line ≡ Ok h → IsHead Formed own line)
    (refuses : (line : Line) (kind : TextKind) → heading line ≡ Err kind → kind ≡ Header) where
  head_begins : (bytes : List ℕ) (line : Line) (more : List Line) → lines_of bytes ≡ line ∷ more → 1 ≤ length (whole_lines bytes)
      → IsHead Formed own line → Begins Formed own 1 bytes
  head_begins bytes line more is some (c, rest, w, first) =
      let text = text_of (own c) in
      let count = lines_count text in
      let lines : lines_of text ≡ line ∷ (rest ++ lines_of []) = lines_alone known c ∙ ap (λ ls. ls ++ lines_of []) first in
      let len : length (lines_of text) ≡ length (line ∷ (rest ++ lines_of [])) = ap length lines in
      let there : 1 ≤ length (whole_lines text) = omega (arith, count, len, length-append rest (lines_of [])) in (
        c,
        w,
        record {
          lines = some;
          other_lines = there;
          same = whole_alike 1 bytes text some there (ap (λ ls. take 1 ls) is ∙ sym (ap (λ ls. take 1 ls) lines));
        },
      )

  header_of : (bytes : List ℕ) (line other : Line) (more : List Line) (said : Said H)
      → heading line ≡ said → lines_of bytes ≡ line ∷ other ∷ more → 1 ≤ length (whole_lines bytes) → (Begins Formed own 1 bytes → ⊥)
      → Faults (next_line heading next) bytes (record { line = 1; kind = Header })
  header_of bytes line other more (Ok h) told is some none =
      absurd (none (head_begins bytes line (other ∷ more) is some (heads line h told)))
  header_of bytes line other more (Err kind) told is some none =
      let of = refuses line kind told in
      let here : List Line = line ∷ other ∷ more in
      let len : length (lines_of bytes) ≡ length here = ap length is in
      stopped_by (next_line heading next) bytes Header here 1
      (ap (next_line heading next) is ∙ ap (λ s. after s next here (other ∷ more)) told ∙ ap (λ k. Stopped k here) of)
      (omega (arith, len))

  pub header_just_where : (bytes : List ℕ) → Faults (next_line heading next) bytes (record { line = 1; kind = Header })
      ↔ ((1 ≤ length (whole_lines bytes)) × (Begins Formed own 1 bytes → ⊥))
  header_just_where bytes = (
    λ e. begin_none known bytes (record { line = 1; kind = Header }) e (λ other. absurd (cc)) (λ other. absurd (cc)),
    λ (some, none).
        let count = lines_count bytes in
        let (line, other, more, is) = two_lines (lines_of bytes) (omega (arith, count, some)) in
        header_of bytes line other more (heading line) refl is some none,
  )
