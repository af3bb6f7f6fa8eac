-- The first fault against the lines that are admitted, whatever is read.
use Rattle.std.proofs.Common.{◌≡◌, ◌≢◌, ℕ, ◌<◌, ◌≤◌, ◌+◌, List, [], ◌∷◌, ◌++◌, length, take, inl, inr, Result, Err, ◌↔◌, refl, sym, ap, ◌∙◌, subst, append-nil, arith}
use Rattle.std.proofs.lemmas.Bool.{cases_lt}
use Rattle.std.proofs.lemmas.List.{take-take, length-append}
use Rattle.std.proofs.Math.Seq.{take-append_seam}
use Rattle.cert_line.specs.declared.faults.TextKind.{TextKind}
use Rattle.cert_line.specs.declared.faults.TextKind.TheVariants as kind
use Rattle.cert_text.specs.declared.faults.TextFault.{TextFault}
use Rattle.cert_value.specs.Text.{Line, text_of}
use Rattle.cert_text.specs.Grammar.{LinesOutcome, lines_of, reading_by}
use Rattle.cert_text.proofs.Reading.{stopped_by, read_by}
use Rattle.cert_text.specs.FirstFaults.{whole_lines}
use Rattle.cert_text.specs.Admitted.{first_part, AreAdmittedBy}
use Rattle.cert_text.proofs.TextLemmas.{ReadsTexts, has_no_fault, is_text_or_has_fault, one_fault}
use Rattle.cert_text.proofs.LineLemmas.{lines_count}
use Rattle.cert_text.proofs.ReaderLemmas.{bare}
use Rattle.cert_text.proofs.PlaceLemmas.{Faults, Begins, stands, stands_later, begin_none}
use Rattle.cert_text.proofs.EndLemmas.{more_is_trailing}
use Rattle.cert_text.proofs.PartLemmas.{part_lines, part_count, part_begins, part_whole, part_of}

-- A fault past all whole lines, with no text before it.
is_truncated : (k : TextKind) → (k ≢ kind.Truncated → k ≢ kind.Trailing → ⊥) → k ≢ kind.Trailing → k ≡ kind.Truncated
is_truncated (kind.Header) other not = absurd (other (λ e. absurd (cc)) not)
is_truncated (kind.Number) other not = absurd (other (λ e. absurd (cc)) not)
is_truncated (kind.Shape) other not = absurd (other (λ e. absurd (cc)) not)
is_truncated (kind.Order) other not = absurd (other (λ e. absurd (cc)) not)
is_truncated (kind.Truncated) other not = refl
is_truncated (kind.Trailing) other not = absurd (not refl)

module _ {C : Type 0} {Formed : C → Type 0} {own : C → List Line} {read : List Line → LinesOutcome C} (known : ReadsTexts Formed own read) where
  -- A fault within the first n lines is the fault of all bytes with those lines.
  same_fault : (bytes others : List ℕ) (n : ℕ) (fault : TextFault)
      → Faults read bytes fault → take n (lines_of bytes) ≡ take n (lines_of others)
      → n < length (lines_of bytes) → n < length (lines_of others) → fault.line ≤ n
      → Faults read others fault
  same_fault bytes others n fault e same near far low =
      let s = stands known bytes fault e in
      let line = s.line in
      let within = s.so.within in
      let (left, stops, len) = s.so.alike n (lines_of others) same near far (omega (arith, line, within, low)) in
      stopped_by read others fault.kind left fault.line stops (omega (arith, line, within, len))

  -- the line of a fault is no later than the last piece
  line_within : (bytes : List ℕ) (fault : TextFault) → Faults read bytes fault → fault.line ≤ length (whole_lines bytes) + 1
  line_within bytes fault e =
      let s = stands known bytes fault e in
      let line = s.line in
      let some = s.so.some in
      let count = lines_count bytes in
      omega (arith, line, some, count)

  pub before_the_fault : (bytes : List ℕ) (fault : TextFault) (n : ℕ) → Faults read bytes fault → n < fault.line → AreAdmittedBy (Faults read) n bytes
  before_the_fault bytes fault n e before =
      let last = line_within bytes fault e in
      let whole : n ≤ length (whole_lines bytes) = omega (arith, last, before) in
      let count = lines_count bytes in
      let few = part_count n bytes whole in
      record {
        whole = whole;
        sound = λ other f.
            elim (cases_lt n other.line) [
              | inl far ↦ far
              | inr near ↦
                  let here = same_fault (first_part n bytes) bytes n other f (part_begins n bytes whole) (omega (arith, few)) (omega (arith, count, whole)) near in
                  let same = one_fault (reading_by read bytes) other fault here e in
                  let line : other.line ≡ fault.line = ap (λ (x : TextFault). x.line) same in
                  absurd (omega (arith, line, near, before))
            ];
      }

  admitted_before : (bytes : List ℕ) (fault : TextFault) (n : ℕ) → Faults read bytes fault → AreAdmittedBy (Faults read) n bytes → n < fault.line
  admitted_before bytes fault n e admitted = elim (cases_lt n fault.line) [
    | inl far ↦ far
    | inr near ↦
        let whole = admitted.whole in
        let count = lines_count bytes in
        let few = part_count n bytes whole in
        admitted.sound fault
        (same_fault bytes (first_part n bytes) n fault e (sym (part_begins n bytes whole)) (omega (arith, count, whole)) (omega (arith, few)) near)
  ]

  pub fault_ends_admitted : (bytes : List ℕ) (fault : TextFault) → Faults read bytes fault → (n : ℕ) → (n < fault.line) ↔ AreAdmittedBy (Faults read) n bytes
  fault_ends_admitted bytes fault e n = (before_the_fault bytes fault n e, admitted_before bytes fault n e)

  pub own_lines_are_admitted : (n : ℕ) (bytes : List ℕ) → Begins Formed own n bytes → AreAdmittedBy (Faults read) n bytes
  own_lines_are_admitted n bytes (c, w, alike) =
      let whole = alike.lines in
      let part = part_whole n bytes whole in
      let few = part_count n bytes whole in
      let count = lines_count (first_part n bytes) in
      record {
        whole = whole;
        sound = λ fault e.
            stands_later known (first_part n bytes) n fault (
              c,
              w,
              record {
                lines = omega (arith, few, count);
                other_lines = alike.other_lines;
                same = ap (λ ls. take n ls) part ∙ take-take n n (whole_lines bytes) (omega arith) ∙ alike.same;
              },
            )
            e;
      }

  pub truncated_at_the_end : (bytes : List ℕ) (fault : TextFault) → Faults read bytes fault → fault.kind ≡ kind.Truncated
      → fault.line ≡ length (whole_lines bytes) + 1
  truncated_at_the_end bytes fault e is =
      let s = stands known bytes fault e in
      let line = s.line in
      let one = s.so.truncated is in
      let count = lines_count bytes in
      omega (arith, line, one, count)

  pub header_in_line_one : (bytes : List ℕ) (fault : TextFault) → Faults read bytes fault → fault.kind ≡ kind.Header
      → (fault.line ≡ 1) × (1 ≤ length (whole_lines bytes)) × (Begins Formed own 1 bytes → ⊥)
  header_in_line_one bytes fault e is =
      let s = stands known bytes fault e in
      let line = s.line in
      let all = (s.so.header is).1 in
      let none = begin_none known bytes fault e (λ other. absurd (cc)) (λ other. absurd (cc)) in
      let first : fault.line ≡ 1 = omega (arith, line, all) in
      let low = none.0 in
      (first, omega (arith, low, first), subst (λ n. Begins Formed own n bytes → ⊥) first none.1)

  -- What is told to be trailing follows a text.
  pub trailing_follows_text : (bytes : List ℕ) (fault : TextFault) → Faults read bytes fault → fault.kind ≡ kind.Trailing
      → (c : C) × (more : List ℕ) × Formed c × (more ≢ []) × (bytes ≡ text_of (own c) ++ more)
  trailing_follows_text bytes fault e is =
      let s = stands known bytes fault e in
      let so = s.so in
      let (c, on) = so.trailing is in
      let n = length so.front in
      let some = so.some in
      let count = lines_count bytes in
      let both : length (lines_of bytes) ≡ n + length s.rest = ap length so.cut ∙ length-append so.front s.rest in
      let whole : n ≤ length (whole_lines bytes) = omega (arith, some, count, both) in
      let front : take n (lines_of bytes) ≡ so.front = ap (λ ls. take n ls) so.cut ∙ take-append_seam so.front s.rest in
      let part = first_part n bytes in
      let lines : lines_of part ≡ so.front ++ bare = part_lines n bytes whole ∙ ap (λ ls. ls ++ bare) front in
      let (w, text) = known.back part c (read_by read part c (ap read lines ∙ on)) in
      let (more, cut) = part_of n bytes whole in
      let same : bytes ≡ text_of (own c) ++ more = cut ∙ ap (λ xs. xs ++ more) text in
      let all : more ≡ [] → bytes ≡ text_of (own c) = λ none. same ∙ ap (λ xs. text_of (own c) ++ xs) none ∙ append-nil (text_of (own c)) in
      (c, more, w, (λ none. has_no_fault known c fault w (ap (reading_by read) (sym (all none)) ∙ e)), same)

  -- The bytes begin with no text.
  abbrev pub HoldsNone : List ℕ → Type 0
  HoldsNone bytes = (c : C) (more : List ℕ) → Formed c → bytes ≡ text_of (own c) ++ more → ⊥

  -- Bytes that end too soon begin with no text.
  truncated_holds : (bytes : List ℕ) (fault : TextFault) → Faults read bytes fault → fault.kind ≡ kind.Truncated → HoldsNone bytes
  truncated_holds bytes fault e is c [] w same =
      has_no_fault known c fault w (ap (reading_by read) (sym (same ∙ append-nil (text_of (own c)))) ∙ e)
  truncated_holds bytes fault e is c (b ∷ bs) w same =
      let trailing = more_is_trailing known c (b ∷ bs) w (λ none. absurd (cc)) in
      let one = one_fault (reading_by read bytes) _ fault (ap (reading_by read) same ∙ trailing) e in
      let of : kind.Trailing ≡ fault.kind = ap (λ (f : TextFault). f.kind) one in
      absurd (cc)

  truncated_of : (bytes : List ℕ) (fault : TextFault) → Faults read bytes fault → AreAdmittedBy (Faults read) (length (whole_lines bytes)) bytes → HoldsNone bytes
      → Faults read bytes (record { line = length (whole_lines bytes) + 1; kind = kind.Truncated })
  truncated_of bytes fault e admitted none =
      let far = admitted_before bytes fault (length (whole_lines bytes)) e admitted in
      let is = is_truncated fault.kind
      (λ not other. let low = (begin_none known bytes fault e not other).0 in omega (arith, low, far))
      (λ trailing. let (c, more, w, some, same) = trailing_follows_text bytes fault e trailing in none c more w same) in
      let line = truncated_at_the_end bytes fault e is in
      let f : ℕ → Result C TextFault = λ n. Err (record { line = n; kind = fault.kind }) in
      let g : TextKind → Result C TextFault = λ k. Err (record { line = length (whole_lines bytes) + 1; kind = k }) in
      e ∙ ap f line ∙ ap g is

  pub truncated_just_where : (bytes : List ℕ) → Faults read bytes (record { line = length (whole_lines bytes) + 1; kind = kind.Truncated })
      ↔ (AreAdmittedBy (Faults read) (length (whole_lines bytes)) bytes × HoldsNone bytes)
  truncated_just_where bytes = (
    λ e. (before_the_fault bytes _ (length (whole_lines bytes)) e (omega arith), truncated_holds bytes _ e refl),
    λ (admitted, none).
        elim (is_text_or_has_fault known bytes) [
          | inl (c, w, same) ↦ absurd (none c [] w (same ∙ sym (append-nil (text_of (own c)))))
          | inr (fault, e) ↦ truncated_of bytes fault e admitted none
        ],
  )
