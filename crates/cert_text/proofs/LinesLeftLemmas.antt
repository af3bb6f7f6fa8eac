-- Readers of parts, one after another.
use Rattle.std.proofs.Common.{◌≡◌, ℕ, ◌+◌, ◌-◌, ◌≤◌, ◌<◌, ◌^◌, ◌==◌, List, [], ◌∷◌, ◌++◌, length, map, take, drop, position, cond, Option, Some, None, true, false, Result, Ok, Err, refl, sym, ap, ◌∙◌, subst, arith}
use Rattle.std.specs.List.{slice_split}
use Rattle.std.proofs.lemmas.Bool.{cond-true, cond-false}
use Rattle.std.proofs.lemmas.List.{length-map}
use Rattle.std.proofs.lemmas.List.Splits.{length-slice_split}
use Rattle.std.proofs.lemmas.List.Sums.{count_by-le-length}
use Rattle.cert_value.specs.Tokens.{tokens_of}
use Rattle.cert_value.specs.Text.{Line}
use Rattle.cert_value.specs.declared.types.Element.{Element}
use Rattle.cert_value.specs.declared.types.StepLine.{StepLine}
use Rattle.cert_value.specs.WellFormed.{has_some, is_live}
use Rattle.cert_text.specs.declared.faults.CertReadFault.{CertReadFault}
use Rattle.cert_text.specs.declared.faults.CertReadFault.TheVariants.{Text, Memory}
use Rattle.cert_line.specs.declared.faults.LineFault.{LineFault}
use Rattle.cert_line.specs.declared.faults.LineFault.TheVariants as line_fault
use Rattle.cert_line.specs.declared.faults.TextKind.{TextKind}
use Rattle.cert_line.specs.declared.faults.TextKind.TheVariants.{Truncated, Trailing}
use Rattle.cert_text.specs.declared.faults.TextFault.{TextFault}
use Rattle.cert_line.specs.Agrees.{Agrees}
use Rattle.cert_text.specs.Told.{Told}
use Rattle.cert_line.specs.Lines.{Said, step_in}
use Rattle.cert_text.specs.Grammar.{LinesOutcome, On, Read, Stopped, after, next_line, read_steps, finish, lines_of, reading_by}
use Rattle.cert_text.proofs.Forward.{line_fw}
use Rattle.cert_text.proofs.ReadLemmas.{split_cons, bare_false, line_off, last_off}
use Rattle.cert_text.proofs.Theorem.{some_lines}
use Rattle.cert_text.proofs.Reading.{stopped_by, read_by}
use Rattle.cert_text.specs.LinesLeft.{Left, past, ReadsOn, TakesLineOff, RunsOut, placed, IsAtEnd}

stops_at : {C A : Type 0} (said : Line → Said A) (next : On C A) (line : Line) (rest : List Line) (kind : TextKind) → has_some rest ≡ true → said line ≡ Err kind
    → next_line said next (line ∷ rest) ≡ Stopped kind (line ∷ rest)
stops_at said next line [] kind h e = absurd (cc)
stops_at said next line (other ∷ rest) kind h e = ap (λ s. after s next (line ∷ other ∷ rest) (other ∷ rest)) e

-- A whole line, which is read or not.
line_said : (C : Type 0) {A : Type 0} (said : Line → Said A) (old new : Left) (line : Line) (n : ℕ) (r : Result A LineFault) → n ≡ old.1 → TakesLineOff old new line
    → Agrees (said line) r → ReadsOn {C = C} (next_line said) old new (placed n r)
line_said C said old new line n (Ok a) is t e = (t.2, λ next. ap (next_line said next) t.0 ∙ line_fw said next line a new.0 e t.1)
line_said C said old new line n (Err (line_fault.Memory)) is t e = tt
line_said C said old new line n (Err (line_fault.Text kind)) is t e = (
  old.0,
  ap (λ m. m + length old.0) is,
  λ next. subst (λ (ls : List Line). next_line said next ls ≡ Stopped kind ls) (sym t.0) (stops_at said next line new.0 kind t.1 e),
)

pub line_placed : (C : Type 0) {A : Type 0} (said : Line → Said A) (old new : Left) (line : Line) (n : ℕ) (s : Result A LineFault) (r : Result A CertReadFault) → n ≡ old.1
    → TakesLineOff old new line → Agrees (said line) s → r ≡ placed n s → ReadsOn {C = C} (next_line said) old new r
line_placed C said old new line n s r is t e of = subst (λ r. ReadsOn {C = C} (next_line said) old new r) (sym of) (line_said C said old new line n s is t e)

-- No whole line.
pub line_none : (C : Type 0) {A : Type 0} (said : Line → Said A) (old new : Left) (e : CertReadFault) → RunsOut old e → ReadsOn {C = C} {A = A} (next_line said) old new (Err e)
line_none C said old new Memory h = absurd h
line_none C {A} said old new (Text fault) (piece, is, of) =
    let P : TextFault → Type 0 = λ f. (here : List Line) × (f.line + length here ≡ past old) × ((next : On C A) → next_line said next old.0 ≡ Stopped f.kind here) in
    subst P (sym of) (old.0, refl, λ next. subst (λ (ls : List Line). next_line said next ls ≡ Stopped Truncated ls) (sym is) refl)

-- The whole part is read so far that this part is left of it.
abbrev pub SoFar : {C A : Type 0} → (On C A → List Line → LinesOutcome C) → (On C A → List Line → LinesOutcome C) → Left → Left → Type 0
SoFar {C} {A} whole part old now = (past now ≡ past old) × ((next : On C A) → whole next old.0 ≡ part next now.0)

-- Nothing is read yet.
pub so_far : {C A : Type 0} (whole : On C A → List Line → LinesOutcome C) (old : Left) → SoFar whole whole old old
so_far whole old = (refl, λ next. refl)

-- A further part is read, with what follows it.
pub so_next : {C A B : Type 0} (whole : On C A → List Line → LinesOutcome C) (first : On C B → List Line → LinesOutcome C) (then : On C A → On C B) (old now new : Left) (b : B)
    → SoFar whole (λ next. first (then next)) old now → ReadsOn first now new (Ok b) → SoFar whole (λ next. then next b) old new
so_next whole first then old now new b f r = (r.0 ∙ f.0, λ next. f.1 next ∙ r.1 (then next))

-- A further part is not read.
pub so_stop : {C A B : Type 0} (whole : On C A → List Line → LinesOutcome C) (first : On C B → List Line → LinesOutcome C) (then : On C A → On C B) (old now mid new : Left) (e : CertReadFault)
    → SoFar whole (λ next. first (then next)) old now → ReadsOn {A = B} first now mid (Err e) → ReadsOn {A = A} whole old new (Err e)
so_stop whole first then old now mid new (Text fault) f (here, number, stop) = (here, number ∙ f.0, λ next. f.1 next ∙ stop (then next))
so_stop whole first then old now mid new Memory f r = tt

-- One part, and then another that depends on what it gives.
pub then_reads : {C A B : Type 0} (first : On C B → List Line → LinesOutcome C) (then : On C A → On C B) (old mid new : Left) (b : B) (r : Result A CertReadFault)
    → ReadsOn first old mid (Ok b) → ReadsOn (λ next. then next b) mid new r → ReadsOn (λ next. first (then next)) old new r
then_reads first then old mid new b (Ok a) f g = (g.0 ∙ f.0, λ next. f.1 (then next) ∙ g.1 next)
then_reads first then old mid new b (Err (Text fault)) f (here, number, stop) = (here, number ∙ f.0, λ next. f.1 (then next) ∙ stop next)
then_reads first then old mid new b (Err Memory) f g = tt

pub first_stops : {C A B : Type 0} (first : On C B → List Line → LinesOutcome C) (then : On C A → On C B) (old mid new : Left) (e : CertReadFault)
    → ReadsOn {A = B} first old mid (Err e) → ReadsOn {A = A} (λ next. first (then next)) old new (Err e)
first_stops first then old mid new (Text fault) (here, number, stop) = (here, number, λ next. stop (then next))
first_stops first then old mid new Memory f = tt

-- One part, from whose item the whole's is made.
pub gives : {C A B : Type 0} (first : On C B → List Line → LinesOutcome C) (make : B → A) (old new : Left) (b : B)
    → ReadsOn first old new (Ok b) → ReadsOn (λ next. first (λ x. next (make x))) old new (Ok (make b))
gives first make old new b f = (f.0, λ next. f.1 (λ x. next (make x)))

-- The bytes are read so far that what is left is read so.
abbrev pub IsAt : {C : Type 0} → (List Line → LinesOutcome C) → List ℕ → Left → (List Line → LinesOutcome C) → Type 0
IsAt read bytes left more = (past left ≡ length (lines_of bytes) + 1) × (read (lines_of bytes) ≡ more left.0)

pub at_start : {C : Type 0} (read : List Line → LinesOutcome C) (bytes : List ℕ) → IsAt read bytes (lines_of bytes, 1) read
at_start read bytes = (omega arith, refl)

pub at_next : {C A : Type 0} (read : List Line → LinesOutcome C) (bytes : List ℕ) (part : On C A → List Line → LinesOutcome C) (next : On C A) (old new : Left) (a : A)
    → IsAt read bytes old (part next) → ReadsOn part old new (Ok a) → IsAt read bytes new (next a)
at_next read bytes part next old new a h r = (r.0 ∙ h.0, h.1 ∙ r.1 next)

pub at_stop : {C A : Type 0} (read : List Line → LinesOutcome C) (bytes : List ℕ) (part : On C A → List Line → LinesOutcome C) (next : On C A) (old new : Left) (e : CertReadFault)
    → IsAt read bytes old (part next) → ReadsOn {A = A} part old new (Err e) → Told {C = C} (reading_by read bytes) (Err e)
at_stop read bytes part next old new (Text fault) h (here, number, stop) =
    stopped_by read bytes fault.kind here fault.line (h.1 ∙ stop next) (number ∙ h.0)
at_stop read bytes part next old new Memory h r = tt

pub at_end : {C : Type 0} (read : List Line → LinesOutcome C) (bytes : List ℕ) (c : C) (left : Left) → IsAt read bytes left (finish c) → IsAtEnd C left (Ok tt)
    → Told (reading_by read bytes) (Ok c)
at_end read bytes c left h e = read_by read bytes c (h.1 ∙ e c)

pub at_over : {C : Type 0} (read : List Line → LinesOutcome C) (bytes : List ℕ) (c : C) (left : Left) (e : CertReadFault) → IsAt read bytes left (finish c)
    → IsAtEnd C left (Err e) → Told {C = C} (reading_by read bytes) (Err e)
at_over read bytes c left (Text fault) h (number, stop) =
    stopped_by read bytes fault.kind left.0 fault.line (h.1 ∙ stop c) (ap (λ n. n + length left.0) number ∙ h.0)
at_over read bytes c left Memory h e = absurd e

-- There are few lines.
lines_few : (bytes : List ℕ) → length (lines_of bytes) ≤ length bytes + 1
lines_few bytes =
    let pieces = slice_split (λ b. b == 10) bytes in
    omega (arith, length-map pieces tokens_of, length-slice_split (λ b. b == 10) bytes, count_by-le-length (λ b. b == 10) bytes)

pub few_left : (bytes : List ℕ) (left : Left) → length bytes ≤ 2 ^ 30 → past left ≡ length (lines_of bytes) + 1 → past left < 2 ^ 32
few_left bytes left few is = omega (arith, few, is, lines_few bytes)

-- A line that was taken off.
pub takes_line : (rest left : List ℕ) (line : Line) (n : ℕ) → lines_of rest ≡ line ∷ lines_of left → TakesLineOff (lines_of rest, n) (lines_of left, n + 1) line
takes_line rest left line n cut = (cut, some_lines left, omega (arith, ap (λ (ls : List Line). length ls) cut))

-- A byte after the last line is one too many.
pub over_one : {C : Type 0} (rest : List ℕ) (c : C) → (length rest == 0) ≡ false → finish c (lines_of rest) ≡ Stopped Trailing (lines_of rest)
over_one {C} rest c some = go (position (λ b. b == 10) rest) refl where
  P : List Line → Type 0
  P ls = finish c ls ≡ Stopped Trailing ls

  go : (o : Option ℕ) → position (λ b. b == 10) rest ≡ o → P (lines_of rest)
  go None e =
      subst P (sym (last_off rest e)) (ap (λ b. cond b (Read c) (Stopped Trailing (tokens_of rest ∷ []))) (bare_false rest some))
  go (Some at) e =
      let left = take (length rest - (at + 1)) (drop (at + 1) rest) in
      let (part, parts, is) = split_cons (λ b. b == 10) left in
      let two : lines_of left ≡ tokens_of part ∷ map tokens_of parts = ap (λ ps. map tokens_of ps) is in
      subst P (sym (line_off rest at e ∙ ap (λ ls. tokens_of (take at rest) ∷ ls) two)) refl

-- The line of a live element is due, and none of another.
pub so_live : {C : Type 0} (whole : On C (List StepLine) → List Line → LinesOutcome C) (n : ℕ) (es : List Element) (e : Element) (rest : List Element) (steps : List StepLine) (old now : Left)
    → es ≡ e ∷ rest → is_live e.mark ≡ true → SoFar whole (read_steps n es steps) old now
    → SoFar whole (λ next. next_line (step_in n) (λ step. read_steps (n + 1) rest (steps ++ step ∷ []) next)) old now
so_live whole n es e rest steps old now is live f =
    (f.0, λ next. f.1 next ∙ ap (λ xs. read_steps n xs steps next now.0) is ∙ cond-true (is_live e.mark) _ _ live)

pub so_dead : {C : Type 0} (whole : On C (List StepLine) → List Line → LinesOutcome C) (n : ℕ) (es : List Element) (e : Element) (rest : List Element) (steps : List StepLine) (old now : Left)
    → es ≡ e ∷ rest → is_live e.mark ≡ false → SoFar whole (read_steps n es steps) old now → SoFar whole (read_steps (n + 1) rest steps) old now
so_dead whole n es e rest steps old now is dead f =
    (f.0, λ next. f.1 next ∙ ap (λ xs. read_steps n xs steps next now.0) is ∙ cond-false (is_live e.mark) _ _ dead)
