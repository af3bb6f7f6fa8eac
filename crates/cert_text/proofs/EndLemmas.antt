-- What follows a text.
use Rattle.std.proofs.Common.{◌≡◌, ◌≢◌, ℕ, ◌+◌, ◌==◌, false, cond, List, [], ◌∷◌, ◌++◌, length, map, Err, refl, sym, ap, ◌∙◌, arith}
use Rattle.std.specs.List.{slice_split, join_with_byte}
use Rattle.std.proofs.lemmas.Bool.{ne_eqb}
use Rattle.std.proofs.lemmas.List.{length-append}
use Rattle.std.proofs.lemmas.List.Splits.{join_with_byte-slice_split}
use Rattle.cert_line.specs.declared.faults.TextKind.TheVariants.{Trailing}
use Rattle.cert_value.specs.Text.{Line, text_of}
use Rattle.cert_value.specs.Tokens.{tokens_of}
use Rattle.cert_text.specs.Grammar.{LinesOutcome, Read, Stopped, is_bare, finish, lines_of, reading_by}
use Rattle.cert_text.proofs.ReadLemmas.{split_cons, bare_false}
use Rattle.cert_text.proofs.Reading.{stopped_by}
use Rattle.cert_text.specs.FirstFaults.{whole_lines}
use Rattle.cert_text.proofs.LineLemmas.{lines_count}
use Rattle.cert_text.proofs.TextLemmas.{ReadsTexts, lines_then, lines_alone}

has_bytes : (more : List ℕ) → more ≢ [] → (length more == 0) ≡ false
has_bytes [] some = absurd (some refl)
has_bytes (b ∷ bs) some = ne_eqb (length (b ∷ bs)) 0 (λ e. omega arith)

-- a piece with a byte, or more than one piece, is too much
trails : {C : Type 0} (c : C) (more part : List ℕ) (parts : List (List ℕ)) → more ≢ [] → slice_split (λ b. b == 10) more ≡ part ∷ parts
    → finish c (lines_of more) ≡ Stopped Trailing (lines_of more)
trails c more part [] some e =
    let whole : part ≡ more = sym (ap (λ ps. join_with_byte 10 ps) e) ∙ join_with_byte-slice_split 10 more in
    let one : lines_of more ≡ tokens_of more ∷ [] = ap (λ ps. map tokens_of ps) e ∙ ap (λ p. tokens_of p ∷ []) whole in
    let full : is_bare (tokens_of more) ≡ false = bare_false more (has_bytes more some) in
    ap (finish c) one
    ∙ ap (λ b. cond b (Read c) (Stopped Trailing (tokens_of more ∷ []))) full
    ∙ ap (λ ls. Stopped Trailing ls) (sym one)
trails c more part (next ∷ parts) some e =
    let two : lines_of more ≡ tokens_of part ∷ tokens_of next ∷ map tokens_of parts = ap (λ ps. map tokens_of ps) e in
    ap (finish c) two ∙ ap (λ ls. Stopped Trailing ls) (sym two)

module _ {C : Type 0} {Formed : C → Type 0} {own : C → List Line} {read : List Line → LinesOutcome C} (known : ReadsTexts Formed own read) where
  pub more_is_trailing : (c : C) (more : List ℕ) → Formed c → more ≢ []
      → reading_by read (text_of (own c) ++ more) ≡ Err (record { line = length (whole_lines (text_of (own c))) + 1; kind = Trailing })
  more_is_trailing c more w some =
      let text = text_of (own c) in
      let cut = split_cons (λ b. b == 10) more in
      let count = lines_count text in
      let alone = ap length (lines_alone known c) ∙ length-append (own c) (lines_of []) in
      let both = ap length (lines_then known c more) ∙ length-append (own c) (lines_of more) in
      stopped_by read (text ++ more) Trailing (lines_of more) (length (whole_lines text) + 1) (known.onward c more w ∙ trails c more cut.0 cut.1 some cut.2)
      (omega (arith, count, alone, both))
