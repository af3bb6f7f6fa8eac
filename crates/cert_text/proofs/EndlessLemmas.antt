-- Lines that are admitted although no text begins with them.
use Rattle.std.proofs.Common.{◌≡◌, ℕ, zero, suc, ◌<◌, ◌≤◌, ◌+◌, nat_le, List, [], ◌∷◌, ◌++◌, length, take, refl, sym, ap, ◌∙◌, arith}
use Rattle.std.specs.List.{list_all}
use Rattle.std.proofs.lemmas.Bool.{and_parts, ltb-true, leb-true}
use Rattle.auto_core.specs.declared.parts.Mode.TheVariants as mode
use Rattle.cert_value.specs.declared.types.Cert.{Cert}
use Rattle.cert_value.specs.declared.types.Row.{Row}
use Rattle.cert_line.specs.declared.faults.TextKind.TheVariants.{Truncated}
use Rattle.cert_line.specs.declared.lines.Sizes.{Sizes}
use Rattle.cert_value.specs.Text.{Line, spelled, text_of}
use Rattle.cert_value.specs.WellFormed.{is_short, is_run, has_some, runs_ascend}
use Rattle.cert_text.specs.Law.{FirstFault}
use Rattle.cert_line.specs.Lines.{row_in}
use Rattle.cert_text.specs.Grammar.{LinesOutcome, On, Read, lines_of, read_rows, read_all_elements, read_end, cert_of, yes_of}
use Rattle.cert_text.proofs.Backward.{line_bw}
use Rattle.cert_line.proofs.LineFacts.{row_bw}
use Rattle.cert_text.specs.declared.cross.Cross.{Cross}
use Rattle.cert_text.specs.CrossGrammar.{FirstCrossFault, cross_of_parts}
use Rattle.cert_text.specs.FirstFaults.{BeginCert}
use Rattle.cert_text.specs.Admitted.{endless, EndlessIsAdmitted}
use Rattle.cert_text.specs.Crosses.{BeginCross}
use Rattle.cert_text.specs.CrossAdmitted.{cross_endless, CrossEndlessIsAdmitted}
use Rattle.cert_text.proofs.LineLemmas.{lines_count, same_lines}
use Rattle.cert_text.proofs.TextLemmas.{ReadsTexts, read_whole}
use Rattle.cert_text.proofs.PlaceLemmas.{Begins}
use Rattle.cert_text.proofs.AdmittedLemmas.{before_the_fault}
use Rattle.cert_text.proofs.CertLemmas.{certs}
use Rattle.cert_text.proofs.CrossLemmas.{crosses}

-- no row has a first number of more than nine digits
no_row : {C : Type 0} (bound : ℕ) (rows : List Row) (next : On C (List Row)) (lines : List Line) (c : C)
    → 1000000000 ≤ bound → read_rows 1 1 bound rows next lines ≡ Read c → ⊥
no_row bound rows next lines c high e =
    let took = line_bw (row_in 1 bound) (λ row. read_rows 1 0 (row.left + 1) (rows ++ row ∷ []) next) lines c e in
    let row : Row = took.item in
    let fine = (row_bw 1 bound took.line row took.told).0 in
    let a = and_parts (is_short row.left) _ fine in
    let b = and_parts (list_all is_run row.runs) _ a.1 in
    let d = and_parts (has_some row.runs) _ b.1 in
    let f = and_parts (runs_ascend row.runs) (nat_le bound row.left) d.1 in
    let short = ltb-true row.left 1000000000 a.0 in
    let far = leb-true bound row.left f.1 in
    omega (arith, short, far, high)

cut_at : (n : ℕ) (lines : List Line) → n < length lines → (line : Line) × (more : List Line) × (lines ≡ take n lines ++ line ∷ more)
cut_at n [] h = absurd (omega arith)
cut_at zero (line ∷ more) h = (line, more, refl)
cut_at (suc n) (line ∷ lines) h =
    let (next, more, e) = cut_at n lines (omega arith) in
    (next, more, ap (λ ls. line ∷ ls) e)

-- Where the first n lines begin a text, that is read on after them.
begun_on : {C : Type 0} {Formed : C → Type 0} {own : C → List Line} {read : List Line → LinesOutcome C} → ReadsTexts Formed own read
    → (n : ℕ) (bytes : List ℕ) → Begins Formed own n bytes
    → (c : C) × (line : Line) × (more : List Line) × (read (take n (lines_of bytes) ++ line ∷ more) ≡ Read c)
begun_on {own = own} {read = read} known n bytes (c, w, alike) =
    let lines = lines_of (text_of (own c)) in
    let count = lines_count (text_of (own c)) in
    let long = alike.other_lines in
    let (line, more, cut) = cut_at n lines (omega (arith, count, long)) in
    let whole : lines ≡ take n (lines_of bytes) ++ line ∷ more = cut ∙ ap (λ ls. ls ++ line ∷ more) (sym (same_lines n bytes (text_of (own c)) alike)) in
    (c, line, more, ap read (sym whole) ∙ read_whole known c w)

-- The row before the one that cannot come.
abbrev last_row : Row
last_row = record { left = 999999999; runs = record { first = 0; last = 0 } ∷ [] }

abbrev one_each : Sizes
one_each = record { first_states = 1; second_states = 1; labels = 1 }

-- what is read of a certificate after the rows
abbrev then_elements : On Cert (List Row)
then_elements rows =
    read_all_elements mode.Buchi (record { rows = rows })
    (λ closed. read_end (cert_of 1 mode.Buchi one_each (yes_of [] [] closed)))

ends_there : FirstFault endless (record { line = 7; kind = Truncated })
unfolding spelled
ends_there = refl

none_begins : BeginCert 6 endless → ⊥
unfolding spelled
none_begins begun =
    let (c, line, more, on) = begun_on certs 6 endless begun in
    no_row 1000000000 (last_row ∷ []) then_elements (line ∷ more) c (omega arith) on

pub endless_is_admitted : EndlessIsAdmitted
endless_is_admitted = (before_the_fault certs endless (record { line = 7; kind = Truncated }) 6 ends_there (omega arith), none_begins)

-- what is read of a cross relation after the rows
abbrev then_end : On Cross (List Row)
then_end rows = read_end (cross_of_parts one_each 1 (record { rows = rows }))

cross_ends_there : FirstCrossFault cross_endless (record { line = 6; kind = Truncated })
unfolding spelled
cross_ends_there = refl

no_cross_begins : BeginCross 5 cross_endless → ⊥
unfolding spelled
no_cross_begins begun =
    let (c, line, more, on) = begun_on crosses 5 cross_endless begun in
    no_row 1000000000 (last_row ∷ []) then_end (line ∷ more) c (omega arith) on

pub cross_endless_is_admitted : CrossEndlessIsAdmitted
cross_endless_is_admitted =
    (before_the_fault crosses cross_endless (record { line = 6; kind = Truncated }) 5 cross_ends_there (omega arith), no_cross_begins)
