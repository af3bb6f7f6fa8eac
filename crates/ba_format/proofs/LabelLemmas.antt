-- The labels of what a text reads as can be written.
use Rattle.std.proofs.Common.{◌≡◌, ℕ, ◌+◌, ◌-◌, ◌<◌, ◌≤◌, Bool, true, false, not, eqb, ltb, ◌&&◌, List, [], ◌∷◌, ◌++◌, length, map, reverse, get_or, All, Option, None, Some, refl, sym, ap, subst, ◌∙◌, true≢false, arith, if◌then◌else◌}
use Rattle.std.specs.Option.{option_or}
use Rattle.std.specs.List.{list_any, flat_map, before_first, after_first}
use Rattle.std.proofs.lemmas.List.{reverse-append, reverse-reverse, get_or-reverse, get_or_append_left}
use Rattle.std.proofs.lemmas.List.Folds.{list_any-append}
use Rattle.std.proofs.lemmas.List.Elements.{All-nil, All-cons, All-append}
use Rattle.std.proofs.lemmas.Bool.Decides.{nat_tests}
use Rattle.ba_format.specs.declared.parts.BaFault.{BaFault}
use Rattle.ba_format.specs.declared.parts.BaKind.{BaKind}
use Rattle.ba_format.specs.declared.parts.BaKind.TheVariants.{BadByte, Shape, EmptyToken, TokenLong}
use Rattle.ba_format.specs.declared.parts.Limits.{Limits}
use Rattle.ba_format.specs.Sight.{same_text, AreDifferent}
use Rattle.ba_format.specs.Grammar.{NumberedLine, LineContent, StateLine, TransitionLine, is_blank, without_leading, trimmed, arrows, is_comma, content_of, content_tokens, is_bad, is_shaped, is_empty, is_long, own_fault, lines_in, before_arrow, after_arrow}
use Rattle.ba_format.specs.Faults.{labels_in, labels_of, kind_of_line, later_fault, or_later, first_fault, fault_of_lines, contents_of}
use Rattle.ba_format.specs.Laws.{IsLabelText, LabelsFit}
use Rattle.ba_format.proofs.SightLemmas.{same_text-refl}
use Rattle.ba_format.proofs.LineLemmas.{before-none, cut_at, is_shaped-cut}
use Rattle.ba_format.proofs.NamedLemmas.{All-seen, different-seen}
use Rattle.ba_format.proofs.WrittenLemmas.{none_of}

-- ---- what trimming leaves

leading_front : (xs : List ℕ) → (front : List ℕ) × (xs ≡ front ++ without_leading xs)
leading_front [] = ([], refl)
leading_front (x ∷ xs) = by (is_blank x) (leading_front xs)
  where
    by : (b : Bool) → (front : List ℕ) × (xs ≡ front ++ without_leading xs) → (front : List ℕ) × (x ∷ xs ≡ front ++ (if b then without_leading xs else x ∷ xs))
    by true (front, e) = (x ∷ front, ap (λ l. x ∷ l) e)
    by false rest = ([], refl)

leading_not_blank : (xs : List ℕ) → is_blank (get_or (without_leading xs) 0 0) ≡ false
leading_not_blank [] = refl
leading_not_blank (x ∷ xs) = by (is_blank x) refl (leading_not_blank xs)
  where
    by : (b : Bool) → is_blank x ≡ b → is_blank (get_or (without_leading xs) 0 0) ≡ false → is_blank (get_or (if b then without_leading xs else x ∷ xs) 0 0) ≡ false
    by true e rest = rest
    by false e rest = e

-- a text is its trimmed part between two others
record Trims (xs : List ℕ) : Type 0 where
  front : List ℕ
  back : List ℕ
  inner : without_leading xs ≡ trimmed xs ++ back
  whole : xs ≡ front ++ (trimmed xs ++ back)

trims : (xs : List ℕ) → Trims xs
trims xs =
    let y = without_leading xs in
    let one = leading_front xs in
    let two = leading_front (reverse y) in
    let inner : y ≡ trimmed xs ++ reverse two.0 =
    sym (reverse-reverse y) ∙ ap reverse two.1 ∙ reverse-append two.0 (without_leading (reverse y)) in
    record { front = one.0; back = reverse two.0; inner = inner; whole = one.1 ∙ ap (λ l. one.0 ++ l) inner }

trimmed_none : (p : ℕ → Bool) (xs : List ℕ) → list_any p xs ≡ false → list_any p (trimmed xs) ≡ false
trimmed_none p xs h =
    let t = trims xs in
    let all = sym (list_any-append p t.front (trimmed xs ++ t.back)) ∙ sym (ap (list_any p) t.whole) ∙ h in
    let rest = none_of (list_any p t.front) (list_any p (trimmed xs ++ t.back)) all in
    (none_of (list_any p (trimmed xs)) (list_any p t.back) (sym (list_any-append p (trimmed xs) t.back) ∙ rest.1)).0

arrows-cons : (a : ℕ) (l : List ℕ) → arrows l ≤ arrows (a ∷ l)
arrows-cons a [] = omega arith
arrows-cons a (b ∷ bs) = by (eqb a 45 && eqb b 62) (arrows (b ∷ bs))
  where
    by : (t : Bool) (n : ℕ) → n ≤ (if t then n + 1 else n)
    by true n = omega arith
    by false n = omega arith

arrows-front : (xs ys : List ℕ) → arrows ys ≤ arrows (xs ++ ys)
arrows-front [] ys = omega arith
arrows-front (x ∷ xs) ys = omega (arith, arrows-front xs ys, arrows-cons x (xs ++ ys))

arrows-back : (xs ys : List ℕ) → arrows xs ≤ arrows (xs ++ ys)
arrows-back [] ys = omega arith
arrows-back (a ∷ []) ys = omega arith
arrows-back (a ∷ b ∷ bs) ys = by (eqb a 45 && eqb b 62) _ _ (arrows-back (b ∷ bs) ys)
  where
    by : (t : Bool) (m n : ℕ) → m ≤ n → (if t then m + 1 else m) ≤ (if t then n + 1 else n)
    by true m n h = omega arith
    by false m n h = h

trimmed_arrows : (xs : List ℕ) → arrows xs ≡ 0 → arrows (trimmed xs) ≡ 0
trimmed_arrows xs h =
    let t = trims xs in
    omega (arith, ap arrows t.whole, arrows-front t.front (trimmed xs ++ t.back), arrows-back (trimmed xs) t.back, h)

trimmed_begins : (xs : List ℕ) → 0 < length (trimmed xs) → is_blank (get_or (trimmed xs) 0 0) ≡ false
trimmed_begins xs h =
    let t = trims xs in
    ap is_blank (sym (get_or_append_left (trimmed xs) t.back 0 0 h) ∙ ap (λ l. get_or l 0 0) (sym t.inner)) ∙ leading_not_blank xs

trimmed_ends : (xs : List ℕ) → 0 < length (trimmed xs) → is_blank (get_or (trimmed xs) (length (trimmed xs) - 1) 0) ≡ false
trimmed_ends xs h =
    let minus : length (trimmed xs) - 1 - 0 ≡ length (trimmed xs) - 1 = omega arith in
    ap is_blank (sym (get_or-reverse (trimmed xs) 0 0 h ∙ ap (λ n. get_or (trimmed xs) n 0) minus) ∙ ap (λ l. get_or l 0 0) (reverse-reverse (without_leading (reverse (without_leading xs)))))
    ∙ leading_not_blank (reverse (without_leading xs))

-- ---- the label of a line without a fault of its own

pub if_none : (b : Bool) (kind : BaKind) (rest : Option BaKind) → (if b then Some kind else rest) ≡ None → (b ≡ false) × (rest ≡ None)
if_none true kind rest h = cc
if_none false kind rest h = (refl, h)

record OwnParts (line : List ℕ) : Type 0 where
  good : list_any is_bad line ≡ false
  shaped : is_shaped line ≡ true
  full : list_any is_empty (content_tokens (content_of line)) ≡ false
  short : list_any is_long (content_tokens (content_of line)) ≡ false

own_parts : (line : List ℕ) → own_fault line ≡ None → OwnParts line
own_parts line h =
    let one = if_none (list_any is_bad line) BadByte _ h in
    let two = if_none (not (is_shaped line)) Shape _ one.1 in
    let three = if_none (list_any is_empty (content_tokens (content_of line))) EmptyToken _ two.1 in
    let four = if_none (list_any is_long (content_tokens (content_of line))) TokenLong _ three.1 in
    record { good = one.0; shaped = back (is_shaped line) two.0; full = three.0; short = four.0 }
  where
    back : (b : Bool) → not b ≡ false → b ≡ true
    back true h = refl
    back false h = absurd (true≢false h)

label_fits : (line : List ℕ) → own_fault line ≡ None → list_any is_comma line ≡ true → IsLabelText (trimmed (before_first is_comma line))
label_fits line own comma =
    let o = own_parts line own in
    let front = before_first is_comma line in
    let back = after_first is_comma line in
    let entry : content_of line ≡ TransitionLine (trimmed front) (trimmed (before_arrow back)) (trimmed (after_arrow back)) =
    ap (λ b. if b then TransitionLine (trimmed front) (trimmed (before_arrow back)) (trimmed (after_arrow back)) else StateLine line) comma in
    let full = (none_of (is_empty (trimmed front)) _ (ap (λ e. list_any is_empty (content_tokens e)) (sym entry) ∙ o.full)).0 in
    let short = (none_of (is_long (trimmed front)) _ (ap (λ e. list_any is_long (content_tokens e)) (sym entry) ∙ o.short)).0 in
    let some = positive (length (trimmed front)) full in
    let cut = sym (is_shaped-cut line comma) ∙ o.shaped in
    record {
      some = some;
      short = at_most (length (trimmed front)) short;
      good = trimmed_none is_bad front (none_of (list_any is_bad front) (list_any is_bad (44 ∷ back)) (sym (list_any-append is_bad front (44 ∷ back)) ∙ sym (ap (list_any is_bad) (cut_at line comma)) ∙ o.good)).0;
      no_comma = trimmed_none is_comma front (before-none is_comma line);
      no_arrow = trimmed_arrows front (zero_from (arrows front) (middle (list_any is_comma back) (ltb 0 (arrows front)) (eqb (arrows back) 1) cut));
      begins = trimmed_begins front some;
      ends = trimmed_ends front some;
    }
  where
    positive : (n : ℕ) → eqb n 0 ≡ false → 0 < n
    positive n h = grind (arith, nat_tests)

    at_most : (n : ℕ) → ltb 255 n ≡ false → n ≤ 255
    at_most n h = grind (arith, nat_tests)

    zero_from : (n : ℕ) → ltb 0 n ≡ false → n ≡ 0
    zero_from n h = grind (arith, nat_tests)

    middle : (a b c : Bool) → (not a && not b && c) ≡ true → b ≡ false
    middle true b c h = absurd (true≢false (sym h))
    middle false true c h = absurd (true≢false (sym h))
    middle false false c h = refl

labels_of_line : (line : List ℕ) → own_fault line ≡ None → All IsLabelText (labels_in (content_of line))
labels_of_line line own = by (list_any is_comma line) refl
  where
    by : (b : Bool) → list_any is_comma line ≡ b
        → All IsLabelText (labels_in (if b then TransitionLine (trimmed (before_first is_comma line)) (trimmed (before_arrow (after_first is_comma line))) (trimmed (after_arrow (after_first is_comma line))) else StateLine line))
    by true e = All-cons IsLabelText (trimmed (before_first is_comma line)) [] (label_fits line own e) (All-nil IsLabelText)
    by false e = All-nil IsLabelText

-- ---- a text without a fault

or_none : (own later : Option BaKind) → option_or own later ≡ None → own ≡ None
or_none None later h = refl
or_none (Some kind) later h = h

pub later_none : (n : ℕ) (kind : Option BaKind) (rest : Option BaFault) → or_later n kind rest ≡ None → (kind ≡ None) × (rest ≡ None)
later_none n None rest h = (refl, h)
later_none n (Some kind) rest h = cc

labels_of_lines : (limits : Limits) (earlier : List LineContent) (lines : List NumberedLine) → first_fault limits earlier lines ≡ None → All IsLabelText (flat_map labels_in (map (λ l. content_of l.text) lines))
labels_of_lines limits earlier [] h = All-nil IsLabelText
labels_of_lines limits earlier (l ∷ ls) h =
    let parts = later_none l.number (kind_of_line limits earlier l.text) (first_fault limits (earlier ++ content_of l.text ∷ []) ls) h in
    All-append IsLabelText (labels_in (content_of l.text)) (flat_map labels_in (map (λ l. content_of l.text) ls))
    (labels_of_line l.text (or_none (own_fault l.text) (later_fault limits earlier (content_of l.text)) parts.0))
    (labels_of_lines limits (earlier ++ content_of l.text ∷ []) ls parts.1)

labels_of_text : (limits : Limits) (lines : List NumberedLine) → fault_of_lines limits lines ≡ None → All IsLabelText (flat_map labels_in (map (λ l. content_of l.text) lines))
labels_of_text limits [] h = cc
labels_of_text limits (l ∷ ls) h = labels_of_lines limits [] (l ∷ ls) h

pub labels_fit : LabelsFit
labels_fit text limits read r =
    let labels = r.reading.labels in
    let fit = All-seen same_text IsLabelText [] (flat_map labels_in (contents_of text)) (All-nil IsLabelText) (labels_of_text limits (lines_in text) r.no_fault) in
    let apart : AreDifferent (labels_of (contents_of text)) = different-seen same_text same_text-refl [] (flat_map labels_in (contents_of text)) (λ i j d lt short. absurd (omega arith)) in
    (subst (All IsLabelText) (sym labels) fit, subst AreDifferent (sym labels) apart)
