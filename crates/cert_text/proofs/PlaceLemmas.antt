-- Where the first fault stands, whatever is read.
use Rattle.std.proofs.Common.{◌≡◌, ◌≢◌, ℕ, ◌<◌, ◌≤◌, ◌+◌, ◌-◌, true, List, length, Err, inl, inr, sym, ap, arith}
use Rattle.std.proofs.lemmas.Bool.{cases_lt}
use Rattle.cert_line.specs.declared.faults.TextKind.TheVariants.{Truncated, Trailing}
use Rattle.cert_text.specs.declared.faults.TextFault.{TextFault}
use Rattle.cert_value.specs.Text.{Line, text_of}
use Rattle.cert_text.specs.Grammar.{LinesOutcome, Read, Stopped, lines_of, told_at, line_left, reading_by}
use Rattle.cert_text.specs.FirstFaults.{whole_lines, BeginAlike}
use Rattle.cert_text.proofs.LineLemmas.{lines_count, same_lines}
use Rattle.cert_text.proofs.ReaderLemmas.{StopsSo}
use Rattle.cert_text.proofs.TextLemmas.{ReadsTexts, read_whole}

-- The first fault of the bytes, as the reader tells it.
abbrev pub Faults : {C : Type 0} → (List Line → LinesOutcome C) → List ℕ → TextFault → Type 0
Faults read bytes fault = reading_by read bytes ≡ Err fault

-- The first n lines begin the text of a formed value.
abbrev pub Begins : {C : Type 0} → (C → Type 0) → (C → List Line) → ℕ → List ℕ → Type 0
Begins {C} Formed own n bytes = (c : C) × Formed c × BeginAlike n bytes (text_of (own c))

-- How the reader stops at the first fault.
pub record Stands {C : Type 0} (read : List Line → LinesOutcome C) (bytes : List ℕ) (fault : TextFault) : Type 0 where
  pub rest : List Line
  pub line : fault.line ≡ (length (lines_of bytes) + 1) - length rest
  pub so : StopsSo true read (lines_of bytes) fault.kind rest

stop_of : {C : Type 0} (lines : List Line) (o : LinesOutcome C) (fault : TextFault) → told_at (line_left lines o) o ≡ Err fault
    → (rest : List Line) × (o ≡ Stopped fault.kind rest) × (fault.line ≡ (length lines + 1) - length rest)
stop_of lines (Read c) fault e = absurd (cc)
stop_of {C = C} lines (Stopped kind rest) fault e =
    let here : TextFault = record { line = (length lines + 1) - length rest; kind = kind } in
    let is : here ≡ fault = cc in
    let f : TextFault → LinesOutcome C = λ x. Stopped x.kind rest in
    (rest, ap f is, sym (ap (λ (x : TextFault). x.line) is))

module _ {C : Type 0} {Formed : C → Type 0} {own : C → List Line} {read : List Line → LinesOutcome C} (known : ReadsTexts Formed own read) where
  pub stands : (bytes : List ℕ) (fault : TextFault) → Faults read bytes fault → Stands read bytes fault
  stands bytes fault e =
      let p = stop_of (lines_of bytes) (read (lines_of bytes)) fault e in
      let count = lines_count bytes in
      record { rest = p.0; line = p.2; so = known.reader.stops (lines_of bytes) fault.kind p.0 (omega (arith, count)) p.1 }

  pub stands_later : (bytes : List ℕ) (n : ℕ) (fault : TextFault) → Begins Formed own n bytes → Faults read bytes fault → n < fault.line
  stands_later bytes n fault (c, w, alike) e = elim (cases_lt n fault.line) [
    | inl far ↦ far
    | inr near ↦
        let s = stands bytes fault e in
        let line = s.line in
        let within = s.so.within in
        let here = lines_count bytes in
        let there = lines_count (text_of (own c)) in
        let left = alike.lines in
        let right = alike.other_lines in
        let others = s.so.alike n (lines_of (text_of (own c))) (same_lines n bytes (text_of (own c)) alike)
        (omega (arith, left, here)) (omega (arith, right, there)) (omega (arith, near, line, within)) in
        let stopped = others.1 in
        let whole = read_whole known c w in
        absurd (cc)
  ]

  pub begin_none : (bytes : List ℕ) (fault : TextFault) → Faults read bytes fault → fault.kind ≢ Truncated → fault.kind ≢ Trailing
      → (fault.line ≤ length (whole_lines bytes)) × (Begins Formed own fault.line bytes → ⊥)
  begin_none bytes fault e not other =
      let s = stands bytes fault e in
      let here = lines_count bytes in
      let two = s.so.before_last not other in
      let line = s.line in (
        omega (arith, two, line, here),
        λ begun. let far = stands_later bytes fault.line fault begun e in omega (arith, far),
      )
