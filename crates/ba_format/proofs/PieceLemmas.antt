-- Lemmas on reading a text in pieces.
use Rattle.std.proofs.Common.{◌≡◌, ℕ, ◌+◌, ◌^◌, ◌<◌, ◌≤◌, Bool, true, false, min, Result, Ok, Err, IfOk, ◌⊎◌, inl, inr, List, [], ◌∷◌, ◌++◌, length, map, None, Some, refl, sym, ap, ap₂, subst, ◌∙◌, arith, append-nil, append_assoc}
use Rattle.std.specs.List.{slice_split, onto_first, before_first, after_first, position_or_len}
use Rattle.std.proofs.lemmas.List.{length-append, length-drop}
use Rattle.std.proofs.lemmas.List.Splits.{slice_split-cons_yes, slice_split-cons_no, length-slice_split}
use Rattle.std.proofs.Math.Nat.{min-eq_left}
use Rattle.ba_format.specs.declared.parts.BaFault.{BaFault}
use Rattle.ba_format.specs.declared.parts.BaKind.{BaKind}
use Rattle.ba_format.specs.declared.parts.Limits.{Limits}
use Rattle.ba_format.specs.declared.parts.Named.{Named}
use Rattle.ba_format.specs.declared.parts.ReadFault.{ReadFault}
use Rattle.ba_format.specs.declared.parts.ReadFault.TheVariants.{Ba, Memory as OutOfMemory}
use Rattle.ba_format.specs.declared.pieces.Lines.{Lines}
use Rattle.ba_format.specs.Cut.{is_newline, HasNewline, IsUnfinished}
use Rattle.ba_format.proofs.CutLemmas.{has_more, before_more, after_more, has_on, before_on, after_on}
use Rattle.ba_format.specs.Grammar.{NumberedLine, trimmed, onto_lines, lines_from, lines_in, content_of}
use Rattle.ba_format.specs.Faults.{kind_of_line, first_fault, fault_of_lines, fault_of, contents_of}
use Rattle.ba_format.specs.Draft.{Stands, Fits}
use Rattle.ba_format.specs.Reading.{Reads}
use Rattle.ba_format.specs.Pieces.{AreTaken, HasFirstFault}
use Rattle.ba_format.proofs.ReadLemmas.{Underway, Underway-blank, Underway-taken, faulty_line, Underway-end}

-- ---- lines taken

ap₃ : {X Y Z T : Type 0} (f : X → Y → Z → T) {x x' : X} {y y' : Y} {z z' : Z} → x ≡ x' → y ≡ y' → z ≡ z' → f x y z ≡ f x' y' z'
ap₃ f {x} {x'} {y} {y'} {z} {z'} e d h = ap (λ v. f v y z) e ∙ ap₂ (f x') d h

abbrev pub taken_at : (lines : Lines) (text rest : List ℕ) → AreTaken lines text rest → (more : List ℕ) → Underway lines.limits (text ++ more) (rest ++ more) lines.count lines.draft
taken_at lines text rest u more = record {
  entries = u.entries;
  stands = u.stands;
  fits = u.fits;
  faults = u.faults more;
  says = u.says more;
  short = omega (arith, u.short, length-append text more, length-append rest more);
  few = u.few;
}

-- before any line
pub taken_none : (lines : Lines) → Stands lines.draft [] → lines.count ≡ 0 → AreTaken lines [] []
taken_none lines stands zero = record {
  entries = [];
  stands = stands;
  fits = record { states = omega arith; labels = omega arith; transitions = omega arith };
  faults = λ more. ap (λ n. first_fault lines.limits [] (lines_from (n + 1) (slice_split is_newline more))) zero;
  says = λ more. ap (λ n. map (λ l. content_of l.text) (lines_from (n + 1) (slice_split is_newline more))) zero;
  short = omega arith;
  few = omega arith;
}

-- the next piece follows
pub taken_then : (lines : Lines) (text rest piece : List ℕ) → AreTaken lines text rest → AreTaken lines (text ++ piece) (rest ++ piece)
taken_then lines text rest piece u = record {
  entries = u.entries;
  stands = u.stands;
  fits = u.fits;
  faults = λ more.
      ap (λ t. first_fault lines.limits u.entries (lines_from (lines.count + 1) (slice_split is_newline t))) (append_assoc rest piece more)
      ∙ u.faults (piece ++ more) ∙ ap (λ t. first_fault lines.limits [] (lines_in t)) (sym (append_assoc text piece more));
  says = λ more.
      ap (λ t. u.entries ++ map (λ l. content_of l.text) (lines_from (lines.count + 1) (slice_split is_newline t))) (append_assoc rest piece more)
      ∙ u.says (piece ++ more) ∙ ap contents_of (sym (append_assoc text piece more));
  short = omega (arith, u.short, length-append text piece, length-append rest piece);
  few = u.few;
}

first_of_lines : (limits : Limits) (lines : List NumberedLine) (fault : BaFault) → first_fault limits [] lines ≡ Some fault → fault_of_lines limits lines ≡ Some fault
first_of_lines limits [] fault e = cc
first_of_lines limits (l ∷ ls) fault e = e

-- the count of lines never comes to its end
pub one_more : (lines : Lines) (text rest : List ℕ) → AreTaken lines text rest → HasNewline rest → length text ≤ 2 ^ 25 → min (lines.count + 1) 4294967295 ≡ lines.count + 1
one_more lines text rest u has short = min-eq_left (omega (arith, u.short, has, short))

-- the lines that were taken say the entries; the line that comes next ends
module _ (lines : Lines) (text rest : List ℕ) (u : AreTaken lines text rest) (has : HasNewline rest) where
  after : List ℕ
  after = after_first is_newline rest

  some : (more : List ℕ) → 0 < length (rest ++ more)
  some more = omega (arith, has_more rest more has)

  before : (line more : List ℕ) → line ≡ trimmed (before_first is_newline rest) → line ≡ trimmed (before_first is_newline (rest ++ more))
  before line more is = is ∙ ap trimmed (sym (before_more rest more has))

  shorter : (lines.count + 1) + length (after_first is_newline rest) ≤ length text
  shorter = omega (arith, u.short, has, length-drop (position_or_len is_newline rest + 1) rest)

  pub taken_blank : (new : Lines) → new.limits ≡ lines.limits → new.draft ≡ lines.draft → new.count ≡ lines.count + 1 → trimmed (before_first is_newline rest) ≡ [] → AreTaken new text (after_first is_newline rest)
  taken_blank new limits draft count none =
      let at = λ (more : List ℕ). Underway-blank lines.limits (text ++ more) (rest ++ more) lines.count lines.draft (taken_at lines text rest u more) (some more) (sym (before [] more (sym none))) in
      record {
        entries = u.entries;
        stands = subst (λ d. Stands d u.entries) (sym draft) u.stands;
        fits = subst (λ l. Fits l u.entries) (sym limits) u.fits;
        faults = λ more.
            ap₃ (λ l n t. first_fault l u.entries (lines_from (n + 1) (slice_split is_newline t))) limits count (sym (after_more rest more has))
            ∙ (at more).faults ∙ ap (λ l. first_fault l [] (lines_in (text ++ more))) (sym limits);
        says = λ more.
            ap₂ (λ n t. u.entries ++ map (λ l. content_of l.text) (lines_from (n + 1) (slice_split is_newline t))) count (sym (after_more rest more has)) ∙ (at more).says;
        short = omega (arith, shorter, count);
        few = omega (arith, u.few, count);
      }

  pub taken_line : (line : List ℕ) (new : Lines) → line ≡ trimmed (before_first is_newline rest) → 0 < length line → new.limits ≡ lines.limits → new.count ≡ lines.count + 1
      → (kind_of_line lines.limits u.entries line ≡ None) × Stands new.draft (u.entries ++ content_of line ∷ []) × Fits lines.limits (u.entries ++ content_of line ∷ [])
      → AreTaken new text (after_first is_newline rest)
  taken_line line new is long limits count takes =
      let at = λ (more : List ℕ). Underway-taken lines.limits (text ++ more) (rest ++ more) lines.count lines.draft (taken_at lines text rest u more) (some more) line new.draft (before line more is) long takes in
      record {
        entries = u.entries ++ content_of line ∷ [];
        stands = takes.1;
        fits = subst (λ l. Fits l (u.entries ++ content_of line ∷ [])) (sym limits) takes.2;
        faults = λ more.
            ap₃ (λ l n t. first_fault l (u.entries ++ content_of line ∷ []) (lines_from (n + 1) (slice_split is_newline t))) limits count (sym (after_more rest more has))
            ∙ (at more).faults ∙ ap (λ l. first_fault l [] (lines_in (text ++ more))) (sym limits);
        says = λ more.
            ap₂ (λ n t. (u.entries ++ content_of line ∷ []) ++ map (λ l. content_of l.text) (lines_from (n + 1) (slice_split is_newline t))) count (sym (after_more rest more has)) ∙ (at more).says;
        short = omega (arith, shorter, count);
        few = omega (arith, u.few, count, length-append u.entries (content_of line ∷ []));
      }

  pub taken_fault : (line : List ℕ) (kind : BaKind) (number : ℕ) → line ≡ trimmed (before_first is_newline rest) → 0 < length line → number ≡ lines.count + 1 → kind_of_line lines.limits u.entries line ≡ Some kind
      → HasFirstFault text lines.limits (record { line = number; kind = kind })
  taken_fault line kind number is long count k = λ more.
      first_of_lines lines.limits (lines_in (text ++ more)) _
      (faulty_line lines.limits (text ++ more) (rest ++ more) lines.count lines.draft (taken_at lines text rest u more) (some more) line kind (before line more is) long k
      ∙ ap (λ n. Some (record { line = n; kind = kind })) (sym count))

-- all lines are taken
pub taken_all : (lines : Lines) (text : List ℕ) → AreTaken lines text []
    → (first_fault lines.limits [] (lines_in text) ≡ None) × Stands lines.draft (contents_of text) × Fits lines.limits (contents_of text) × (length (contents_of text) ≤ length text)
taken_all lines text u =
    let end = Underway-end lines.limits (text ++ []) [] lines.count lines.draft refl (taken_at lines text [] u []) in
    let nil = append-nil text in
    (ap (λ t. first_fault lines.limits [] (lines_in t)) (sym nil) ∙ end.0, subst (λ t. Stands lines.draft (contents_of t)) nil end.1, subst (λ t. Fits lines.limits (contents_of t)) nil end.2, subst (λ t. length (contents_of t) ≤ length t) nil end.3)

-- ---- the last line

newline : List ℕ
newline = 10 ∷ []

-- a blank line at the end brings nothing
blank_end : (number : ℕ) (pieces : List (List ℕ)) → lines_from number (pieces ++ [] ∷ []) ≡ lines_from number pieces
blank_end number [] = refl
blank_end number (p ∷ ps) = ap (onto_lines number (trimmed p)) (blank_end (number + 1) ps)

onto_end : (x : ℕ) (pieces : List (List ℕ)) (end : List (List ℕ)) → 0 < length pieces → onto_first x (pieces ++ end) ≡ onto_first x pieces ++ end
onto_end x [] end h = absurd (omega arith)
onto_end x (p ∷ ps) end h = refl

split_end : (text : List ℕ) → slice_split is_newline (text ++ 10 ∷ []) ≡ slice_split is_newline text ++ [] ∷ []
split_end [] = refl
split_end (b ∷ bs) = go (is_newline b) refl (split_end bs)
  where
    go : (t : Bool) → is_newline b ≡ t → slice_split is_newline (bs ++ 10 ∷ []) ≡ slice_split is_newline bs ++ [] ∷ [] → slice_split is_newline (b ∷ (bs ++ 10 ∷ [])) ≡ slice_split is_newline (b ∷ bs) ++ [] ∷ []
    go true e rest =
        slice_split-cons_yes is_newline b (bs ++ 10 ∷ []) e ∙ ap (λ ps. [] ∷ ps) rest ∙ ap (λ ps. ps ++ [] ∷ []) (sym (slice_split-cons_yes is_newline b bs e))
    go false e rest =
        slice_split-cons_no is_newline b (bs ++ 10 ∷ []) e ∙ ap (onto_first b) rest
        ∙ onto_end b (slice_split is_newline bs) ([] ∷ []) (omega (arith, length-slice_split is_newline bs))
        ∙ ap (λ ps. ps ++ [] ∷ []) (sym (slice_split-cons_no is_newline b bs e))

pub ended_lines : (text : List ℕ) → lines_in (text ++ 10 ∷ []) ≡ lines_in text
ended_lines text = ap (lines_from 1) (split_end text) ∙ blank_end 1 (slice_split is_newline text)

-- the last line, where an LF is put behind it
module _ (lines new : Lines) (text line : List ℕ) (u : AreTaken lines text line) (none : IsUnfinished line) where
  pub ended : AreTaken lines (text ++ 10 ∷ []) (line ++ 10 ∷ [])
  ended = taken_then lines text line (10 ∷ []) u

  pub ended_has : HasNewline (line ++ 10 ∷ [])
  ended_has = has_on line (10 ∷ []) none (omega arith)

  pub ended_first : line ≡ before_first is_newline (line ++ 10 ∷ [])
  ended_first = sym (before_on line (10 ∷ []) none ∙ append-nil line)

  -- then all lines of the text are taken
  pub ended_all : AreTaken new (text ++ 10 ∷ []) (after_first is_newline (line ++ 10 ∷ []))
      → (first_fault new.limits [] (lines_in text) ≡ None) × Stands new.draft (contents_of text) × Fits new.limits (contents_of text) × (length (contents_of text) ≤ length text + 1)
  ended_all taken =
      let all = taken_all new (text ++ 10 ∷ []) (subst (AreTaken new (text ++ 10 ∷ [])) (after_on line (10 ∷ []) none) taken) in
      let same = ended_lines text in
      let says : contents_of (text ++ 10 ∷ []) ≡ contents_of text = ap (map (λ l. content_of l.text)) same in
      (ap (first_fault new.limits []) (sym same) ∙ all.0, subst (Stands new.draft) says all.1, subst (Fits new.limits) says all.2, omega (arith, ap length says, all.3, length-append text (10 ∷ [])))

  pub ended_fault : (limits : Limits) (fault : BaFault) → HasFirstFault (text ++ 10 ∷ []) limits fault → fault_of text limits ≡ Some fault
  ended_fault limits fault has =
      ap (fault_of_lines limits) (sym (ended_lines text)) ∙ ap (λ t. fault_of t limits) (sym (append-nil (text ++ 10 ∷ []))) ∙ has []

-- the first fault is told, or want of memory
pub found_from : (r : Result Named ReadFault) (text : List ℕ) (limits : Limits) (fault : BaFault) → IfOk r (Reads text limits) → ((f : BaFault) → r ≡ Err (Ba f) → fault_of text limits ≡ Some f)
    → fault_of text limits ≡ Some fault → (r ≡ Err (Ba fault)) ⊎ (r ≡ Err OutOfMemory)
found_from (Ok named) text limits fault reads told is = absurd (let none = reads.no_fault in cc)
found_from (Err (Ba f)) text limits fault reads told is = inl (ap (λ z. Err (Ba z)) (let first = told f refl in cc))
found_from (Err OutOfMemory) text limits fault reads told is = inr refl
