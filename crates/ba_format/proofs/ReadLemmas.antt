-- Lemmas on reading a text line by line.
use Rattle.std.proofs.Common.{◌≡◌, ℕ, ◌+◌, ◌<◌, ◌≤◌, true, false, eqb, List, [], ◌∷◌, ◌++◌, length, map, None, Some, ◌⊎◌, inl, inr, refl, sym, ap, subst, ◌∙◌, arith}
use Rattle.std.specs.List.{slice_split, before_first, after_first, position_or_len}
use Rattle.std.proofs.lemmas.List.{append-nil, append_assoc, take_all, drop_all, length-drop, length-append}
use Rattle.std.proofs.lemmas.List.Splits.{slice_split_first, slice_split_none}
use Rattle.std.proofs.lemmas.List.Sums.{fails_before_first}
use Rattle.std.proofs.lemmas.Bool.Decides.{nat_tests}
use Rattle.std.proofs.lemmas.Bool.{cases_lt}
use Rattle.ba_format.specs.declared.parts.BaKind.{BaKind}
use Rattle.ba_format.specs.declared.parts.BaKind.TheVariants.{Empty}
use Rattle.ba_format.specs.declared.parts.Limits.{Limits}
use Rattle.ba_format.specs.declared.draft.Opening.{Opening}
use Rattle.ba_format.specs.declared.draft.Opening.TheVariants.{Nothing, OneState, States, Transitions}
use Rattle.ba_format.specs.declared.draft.Draft.{Draft}
use Rattle.ba_format.specs.Grammar.{NumberedLine as TextLine, LineContent, trimmed, onto_lines, lines_from, lines_in, content_of}
use Rattle.ba_format.specs.Cut.{is_newline}
use Rattle.ba_format.specs.Faults.{kind_of_line, or_later, first_fault, fault_of_lines, fault_of, contents_of}
use Rattle.ba_format.specs.Draft.{Opens, Stands, Fits}

-- the lines of a text that isn't empty: its first line, and the lines behind it
pub lines-first : (number : ℕ) (text : List ℕ) → 0 < length text
    → lines_from number (slice_split is_newline text) ≡ onto_lines number (trimmed (before_first is_newline text)) (lines_from (number + 1) (slice_split is_newline (after_first is_newline text)))
lines-first number text h = by (cases_lt (position_or_len is_newline text) (length text))
  where
    by : (position_or_len is_newline text < length text) ⊎ (length text ≤ position_or_len is_newline text)
        → lines_from number (slice_split is_newline text) ≡ onto_lines number (trimmed (before_first is_newline text)) (lines_from (number + 1) (slice_split is_newline (after_first is_newline text)))
    by (inl lt) = ap (lines_from number) (slice_split_first is_newline text 0 lt)
    by (inr le) =
        ap (lines_from number) (slice_split_none is_newline text (λ k d lt. fails_before_first is_newline text k d (omega arith)))
        ∙ ap (λ l. onto_lines number (trimmed l) []) (sym (take_all (position_or_len is_newline text) text le))
        ∙ ap (λ l. onto_lines number (trimmed (before_first is_newline text)) (lines_from (number + 1) (slice_split is_newline l))) (sym (drop_all (position_or_len is_newline text + 1) text (omega arith)))

-- The lines up to here, of this number, say the entries that the draft stands for; the rest of the text holds the others.
pub record Underway (limits : Limits) (text rest : List ℕ) (number : ℕ) (draft : Draft) : Type 0 where
  pub entries : List LineContent
  pub stands : Stands draft entries
  pub fits : Fits limits entries
  pub faults : first_fault limits entries (lines_from (number + 1) (slice_split is_newline rest)) ≡ first_fault limits [] (lines_in text)
  pub says : entries ++ map (λ l. content_of l.text) (lines_from (number + 1) (slice_split is_newline rest)) ≡ contents_of text
  pub short : number + length rest ≤ length text
  pub few : length entries ≤ number

pub Underway-start : (limits : Limits) (text : List ℕ) (draft : Draft) → Stands draft [] → Underway limits text text 0 draft
Underway-start limits text draft s =
    record {
      entries = [];
      stands = s;
      fits = record { states = omega arith; labels = omega arith; transitions = omega arith };
      faults = refl;
      says = refl;
      short = omega arith;
      few = omega arith;
    }

-- ---- one line

module _ (limits : Limits) (text rest : List ℕ) (number : ℕ) (draft : Draft) (u : Underway limits text rest number draft) (h : 0 < length rest) where
  after : List ℕ
  after = after_first is_newline rest

  pub shorter : length (after_first is_newline rest) + 1 ≤ length rest
  shorter = omega (arith, length-drop (position_or_len is_newline rest + 1) rest)

  pub shorter_rest : (number + 1) + length (after_first is_newline rest) ≤ length text
  shorter_rest = omega (arith, shorter, u.short)

  pub cut : lines_from (number + 1) (slice_split is_newline rest)
      ≡ onto_lines (number + 1) (trimmed (before_first is_newline rest)) (lines_from (number + 1 + 1) (slice_split is_newline (after_first is_newline rest)))
  cut = lines-first (number + 1) rest h

  abbrev pub Underway-blank : trimmed (before_first is_newline rest) ≡ [] → Underway limits text (after_first is_newline rest) (number + 1) draft
  Underway-blank b =
      let same = cut ∙ ap (λ l. onto_lines (number + 1) l (lines_from (number + 1 + 1) (slice_split is_newline (after_first is_newline rest)))) b in
      record {
        entries = u.entries;
        stands = u.stands;
        fits = u.fits;
        faults = ap (first_fault limits u.entries) (sym same) ∙ u.faults;
        says = ap (λ l. u.entries ++ map (λ l. content_of l.text) l) (sym same) ∙ u.says;
        short = shorter_rest;
        few = omega (arith, u.few);
      }

  -- the line is the first of those left
  pub line_first : (line : List ℕ) → line ≡ trimmed (before_first is_newline rest) → 0 < length line
      → lines_from (number + 1) (slice_split is_newline rest)
      ≡ record { number = number + 1; text = line } ∷ lines_from (number + 1 + 1) (slice_split is_newline (after_first is_newline rest))
  line_first [] e n = absurd (omega arith)
  line_first (b ∷ bs) e n = cut ∙ ap (λ l. onto_lines (number + 1) l (lines_from (number + 1 + 1) (slice_split is_newline (after_first is_newline rest)))) (sym e)

  abbrev pub Underway-taken : (line : List ℕ) (new : Draft) → line ≡ trimmed (before_first is_newline rest) → 0 < length line
      → (kind_of_line limits u.entries line ≡ None) × Stands new (u.entries ++ content_of line ∷ []) × Fits limits (u.entries ++ content_of line ∷ [])
      → Underway limits text (after_first is_newline rest) (number + 1) new
  Underway-taken line new e n (none, s, f) =
      let later = lines_from (number + 1 + 1) (slice_split is_newline (after_first is_newline rest)) in
      let first = line_first line e n in
      record {
        entries = u.entries ++ content_of line ∷ [];
        stands = s;
        fits = f;
        faults = sym (ap (λ k. or_later (number + 1) k (first_fault limits (u.entries ++ content_of line ∷ []) later)) none) ∙ sym (ap (first_fault limits u.entries) first) ∙ u.faults;
        says = append_assoc u.entries (content_of line ∷ []) (map (λ l. content_of l.text) later) ∙ sym (ap (λ l. u.entries ++ map (λ l. content_of l.text) l) first) ∙ u.says;
        short = shorter_rest;
        few = omega (arith, u.few, length-append u.entries (content_of line ∷ []));
      }

  pub faulty_line : (line : List ℕ) (kind : BaKind) → line ≡ trimmed (before_first is_newline rest) → 0 < length line → kind_of_line limits u.entries line ≡ Some kind
      → first_fault limits [] (lines_in text) ≡ Some (record { line = number + 1; kind = kind })
  faulty_line line kind e n k =
      let later = lines_from (number + 1 + 1) (slice_split is_newline (after_first is_newline rest)) in
      sym u.faults
      ∙ ap (first_fault limits u.entries) (line_first line e n)
      ∙ ap (λ k. or_later (number + 1) k (first_fault limits (u.entries ++ content_of line ∷ []) later)) k

-- all lines are done
pub Underway-end : (limits : Limits) (text rest : List ℕ) (number : ℕ) (draft : Draft) → length rest ≡ 0 → Underway limits text rest number draft
    → (first_fault limits [] (lines_in text) ≡ None) × Stands draft (contents_of text) × Fits limits (contents_of text) × (length (contents_of text) ≤ length text)
Underway-end limits text [] number draft h u =
    let all : u.entries ≡ contents_of text = sym (append-nil u.entries) ∙ u.says in
    (sym u.faults, subst (Stands draft) all u.stands, subst (Fits limits) all u.fits, omega (arith, ap length all, u.few, u.short))
Underway-end limits text (b ∷ bs) number draft h u = absurd (omega arith)

pub nonempty_from : (n : ℕ) → false ≡ eqb n 0 → 0 < n
nonempty_from n e = grind (arith, nat_tests)

pub empty_from : (n : ℕ) → true ≡ eqb n 0 → n ≡ 0
empty_from n e = grind (arith, nat_tests)

-- ---- the result

no_lines : (limits : Limits) (lines : List TextLine) → map (λ l. content_of l.text) lines ≡ [] → fault_of_lines limits lines ≡ Some (record { line = 0; kind = Empty })
no_lines limits [] e = refl
no_lines limits (l ∷ ls) e = cc

-- a text without lines is empty
pub empty_text : (limits : Limits) (text : List ℕ) (o : Opening) → o ≡ Nothing → Opens o (contents_of text) → fault_of text limits ≡ Some (record { line = 0; kind = Empty })
empty_text limits text o e h = no_lines limits (lines_in text) (subst (λ o. Opens o (contents_of text)) e h)

some_lines : (limits : Limits) (lines : List TextLine) → 0 < length (map (λ l. content_of l.text) lines) → fault_of_lines limits lines ≡ first_fault limits [] lines
some_lines limits [] h = absurd (omega arith)
some_lines limits (l ∷ ls) h = refl

-- some line opens the text
pub opens_not : (o : Opening) (entries : List LineContent) → Opens o entries → (o ≡ Nothing → ⊥) → 0 < length entries
opens_not Nothing entries h n = absurd (n refl)
opens_not OneState entries h n = omega (arith, h.0)
opens_not States entries h n = omega (arith, h.0)
opens_not Transitions entries h n = h.0

pub no_fault_text : (limits : Limits) (text : List ℕ) → 0 < length (contents_of text) → first_fault limits [] (lines_in text) ≡ None → fault_of text limits ≡ None
no_fault_text limits text h e = some_lines limits (lines_in text) h ∙ e
