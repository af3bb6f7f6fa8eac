-- Lists of questions, their texts and their lines.
use Rattle.std.proofs.Common.{◌≡◌, ℕ, suc, ◌<◌, ◌≤◌, ◌+◌, ◌-◌, ◌==◌, List, [], ◌∷◌, ◌++◌, length, map, take, drop, Bool, true, false, ◌&&◌, nat_lt, nat_le, cond, if◌then◌else◌, Some, None, Result, Ok, Err, IfOk, MatchResult, position, ◌⊎◌, inl, inr, refl, sym, ap, subst, ◌∙◌, arith, append_assoc, append-nil}
use Rattle.std.specs.List.{list_all, slice_split, onto_first, join_with_byte}
use Rattle.std.proofs.lemmas.List.{length-append, map-append}
use Rattle.std.proofs.lemmas.List.Splits.{join_with_byte-slice_split}
use Rattle.std.proofs.lemmas.List.Folds.{list_all-append}
use Rattle.std.proofs.lemmas.Bool.{and_parts, and_from, leb-true}
use Rattle.std.proofs.lemmas.Bool.Decides.{nat_tests}
use Rattle.cert_value.specs.Text.{Line, line_text, text_of}
use Rattle.cert_value.specs.Tokens.{tokens_of}
use Rattle.cert_value.specs.WellFormed.{has_some}
use Rattle.cert_value.proofs.SplitLemmas.{split_some, rest_all}
use Rattle.cert_value.proofs.TextLemmas.{text_append}
use Rattle.cert_text.specs.Grammar.{lines_of, is_bare}
use Rattle.cert_text.proofs.BytesLines.{plain, is_plain, PlainLine, PlainLines, line_join, lines_text, text_back}
use Rattle.cert_text.proofs.ReadLemmas.{split_cons, bare_false, line_off, last_off}
use Rattle.equal_batch.specs.declared.fault.ListFault.{ListFault}
use Rattle.equal_batch.specs.declared.fault.ListFault.TheVariants as fault
use Rattle.equal_batch.specs.declared.questions.Question.{Question}
use Rattle.equal_batch.specs.Questions.{is_character, is_word, is_question, line_of, IsList, lines_among, cut_lines, bad_from, first_bad, TellsLine}
use Rattle.equal_batch.specs.Laws.{ListIsOne, ListHasNoBadLine, TextWithoutABadLineIsALists}

-- ---- the first line

some_line : (bytes : List ℕ) → 0 < length (lines_of bytes)
some_line bytes =
    let parts = split_cons (λ b. b == 10) bytes in
    omega (arith, ap (λ ps. length (map tokens_of ps)) parts.2)

full_cons : (line : Line) (lines : List Line) → 0 < length lines → lines_among (line ∷ lines) ≡ line ∷ lines_among lines
full_cons line [] h = absurd (omega arith)
full_cons line (next ∷ lines) h = refl

not_zero : (n : ℕ) → 0 < n → (n == 0) ≡ false
not_zero n h = grind (arith, nat_tests)

-- without an LF the bytes are the one line
pub line_last : (bytes : List ℕ) → 0 < length bytes → position (λ b. b == 10) bytes ≡ None → cut_lines bytes ≡ tokens_of bytes ∷ cut_lines []
line_last bytes h e =
    ap lines_among (last_off bytes e)
    ∙ ap (λ b. if b then [] else tokens_of bytes ∷ []) (bare_false bytes (not_zero (length bytes) h))

-- with one the first line stands before it
pub line_next : (bytes : List ℕ) (at : ℕ) → position (λ b. b == 10) bytes ≡ Some at
    → cut_lines bytes ≡ tokens_of (take at bytes) ∷ cut_lines (take (length bytes - (at + 1)) (drop (at + 1) bytes))
line_next bytes at e =
    ap lines_among (line_off bytes at e)
    ∙ full_cons (tokens_of (take at bytes)) _ (some_line (take (length bytes - (at + 1)) (drop (at + 1) bytes)))

join_cons : (x : List ℕ) (xs : List (List ℕ)) → 0 < length xs → join_with_byte 10 (x ∷ xs) ≡ x ++ 10 ∷ join_with_byte 10 xs
join_cons x [] h = absurd (omega arith)
join_cons x (y ∷ ys) h = refl

pub line_whole : (bytes : List ℕ) (at : ℕ) → position (λ b. b == 10) bytes ≡ Some at
    → bytes ≡ take at bytes ++ 10 ∷ take (length bytes - (at + 1)) (drop (at + 1) bytes)
line_whole bytes at e =
    let parts = split_cons (λ b. b == 10) (drop (at + 1) bytes) in
    sym (join_with_byte-slice_split 10 bytes)
    ∙ ap (join_with_byte 10) (split_some (λ b. b == 10) bytes at e)
    ∙ join_cons (take at bytes) (slice_split (λ b. b == 10) (drop (at + 1) bytes)) (omega (arith, ap (λ ps. length ps) parts.2))
    ∙ ap (λ xs. take at bytes ++ 10 ∷ xs) (join_with_byte-slice_split 10 (drop (at + 1) bytes) ∙ sym (rest_all bytes (at + 1)))

-- ---- reading

-- a line's text is the line and LF
line_back : (line : List ℕ) → line_text (tokens_of line) ≡ line ++ 10 ∷ []
line_back line = line_join (tokens_of line) ∙ ap (λ xs. xs ++ 10 ∷ []) (join_with_byte-slice_split 32 line)

text_more : (lines : List Line) (line : Line) → text_of (lines ++ line ∷ []) ≡ text_of lines ++ line_text line
text_more lines line = text_append lines (line ∷ []) ∙ ap (λ xs. text_of lines ++ xs) (append-nil (line_text line))

-- The questions are those of the lines before this one, and the rest holds the others.
pub record Underway (bytes rest : List ℕ) (number : ℕ) (questions : List Question) : Type 0 where
  pub due : bad_from number (cut_lines rest) ≡ first_bad bytes
  pub words : list_all is_question (map line_of questions) ≡ true
  pub count : length questions + 1 ≡ number
  pub few : length questions ≤ 1000
  pub text : (text_of (map line_of questions) ++ rest ≡ bytes) ⊎ ((rest ≡ []) × (text_of (map line_of questions) ≡ bytes ++ 10 ∷ []))

pub Underway-start : (bytes : List ℕ) → Underway bytes bytes 1 []
Underway-start bytes = record { due = refl; words = refl; count = refl; few = omega arith; text = inl refl }

module _ (bytes rest line after : List ℕ) (number : ℕ) (questions : List Question) (u : Underway bytes rest number questions)
    (some : 0 < length rest) (lines : cut_lines rest ≡ tokens_of line ∷ cut_lines after) where
  step : (t : Bool) → (is_question (tokens_of line) && nat_le number 1000) ≡ t
      → (if t then bad_from (number + 1) (cut_lines after) else Some number) ≡ first_bad bytes
  step t e =
      sym (ap (λ t. if t then bad_from (number + 1) (cut_lines after) else Some number) e)
      ∙ sym (ap (bad_from number) lines) ∙ u.due

  pub bad_number : 1000 < number → first_bad bytes ≡ Some number
  bad_number h = sym (step false (past (is_question (tokens_of line)))) where
    past : (b : Bool) → (b && nat_le number 1000) ≡ false
    past true = grind (arith, nat_tests)
    past false = refl

  pub bad_words : is_question (tokens_of line) ≡ false → first_bad bytes ≡ Some number
  bad_words h = sym (step false (ap (λ b. b && nat_le number 1000) h))

  whole_text : (text_of (map line_of questions) ++ rest ≡ bytes) ⊎ ((rest ≡ []) × (text_of (map line_of questions) ≡ bytes ++ 10 ∷ []))
      → (rest ≡ line ++ 10 ∷ after) ⊎ ((rest ≡ line) × (after ≡ []))
      → (text_of (map line_of questions) ++ (line ++ (10 ∷ after)) ≡ bytes) ⊎ ((after ≡ []) × (text_of (map line_of questions) ++ (line ++ (10 ∷ [])) ≡ bytes ++ (10 ∷ [])))
  whole_text (inr e) w = absurd (omega (arith, ap (λ xs. length xs) e.0, some))
  whole_text (inl e) (inl w) = inl (ap (λ xs. text_of (map line_of questions) ++ xs) (sym w) ∙ e)
  whole_text (inl e) (inr w) =
      let text = text_of (map line_of questions) in
      inr (w.1, sym (append_assoc text line (10 ∷ [])) ∙ ap (λ xs. (text ++ xs) ++ (10 ∷ [])) (sym w.0) ∙ ap (λ xs. xs ++ (10 ∷ [])) e)

  pub Underway-more : (question : Question) → line_of question ≡ tokens_of line → is_question (tokens_of line) ≡ true → number ≤ 1000
      → (rest ≡ line ++ 10 ∷ after) ⊎ ((rest ≡ line) × (after ≡ []))
      → Underway bytes after (number + 1) (questions ++ question ∷ [])
  Underway-more question same asks le whole =
      let mapped = map-append line_of questions (question ∷ []) in
      let test : nat_le number 1000 ≡ true = grind (arith, nat_tests) in
      let text : text_of (map line_of (questions ++ question ∷ [])) ≡ text_of (map line_of questions) ++ (line ++ (10 ∷ [])) =
      ap text_of mapped ∙ text_more (map line_of questions) (line_of question)
      ∙ ap (λ l. text_of (map line_of questions) ++ line_text l) same ∙ ap (λ xs. text_of (map line_of questions) ++ xs) (line_back line) in
      record {
        due = step true (and_from (is_question (tokens_of line)) (nat_le number 1000) asks test);
        words = ap (list_all is_question) mapped ∙ list_all-append is_question (map line_of questions) (line_of question ∷ [])
            ∙ and_from (list_all is_question (map line_of questions)) (is_question (line_of question) && true) u.words
            (and_from (is_question (line_of question)) true (ap is_question same ∙ asks) refl);
        count = omega (arith, u.count, length-append questions (question ∷ []));
        few = omega (arith, u.count, length-append questions (question ∷ []));
        text = with_text (whole_text u.text whole) text;
      }
    where
      with_text : {new : List ℕ}
          → (text_of (map line_of questions) ++ (line ++ (10 ∷ after)) ≡ bytes) ⊎ ((after ≡ []) × (text_of (map line_of questions) ++ (line ++ (10 ∷ [])) ≡ bytes ++ (10 ∷ [])))
          → new ≡ text_of (map line_of questions) ++ (line ++ (10 ∷ []))
          → (new ++ after ≡ bytes) ⊎ ((after ≡ []) × (new ≡ bytes ++ (10 ∷ [])))
      with_text (inl e) n =
          let text = text_of (map line_of questions) in
          inl (ap (λ xs. xs ++ after) n ∙ append_assoc text (line ++ (10 ∷ [])) after ∙ ap (λ xs. text ++ xs) (append_assoc line (10 ∷ []) after) ∙ e)
      with_text (inr e) n = inr (e.0, n ∙ e.1)

whole_list : (rest text bytes : List ℕ) → rest ≡ [] → (text ++ rest ≡ bytes) ⊎ ((rest ≡ []) × (text ≡ bytes ++ 10 ∷ []))
    → (text ≡ bytes) ⊎ (text ≡ bytes ++ 10 ∷ [])
whole_list rest text bytes r (inl e) = inl (sym (append-nil text) ∙ ap (λ xs. text ++ xs) (sym r) ∙ e)
whole_list rest text bytes r (inr e) = inr e.1

pub Underway-end : (bytes rest : List ℕ) (number : ℕ) (questions : List Question) → length rest ≡ 0 → Underway bytes rest number questions
    → (first_bad bytes ≡ None) × IsList questions bytes
Underway-end bytes [] number questions h u =
    (sym u.due, record { words = u.words; few = u.few; text = whole_list [] (text_of (map line_of questions)) bytes refl u.text })
Underway-end bytes (b ∷ bs) number questions h u = absurd (omega arith)

-- ---- the laws

plain_word : (token : List ℕ) → list_all is_character token ≡ true → plain token ≡ true
plain_word [] e = refl
plain_word (b ∷ bs) e =
    let a = and_parts (is_character b) (list_all is_character bs) e in
    and_from (is_plain b) (plain bs) (and_parts (nat_lt 32 b) (nat_lt b 127) a.0).0 (plain_word bs a.1)

plain_words : (line : Line) → list_all is_word line ≡ true → list_all plain line ≡ true
plain_words [] e = refl
plain_words (t ∷ ts) e =
    let a = and_parts (is_word t) (list_all is_word ts) e in
    and_from (plain t) (list_all plain ts) (plain_word t (and_parts (has_some t) (list_all is_character t) a.0).1) (plain_words ts a.1)

plain_line : (line : Line) → is_question line ≡ true → PlainLine line
plain_line [] e = absurd (cc)
plain_line (t ∷ ts) e = plain_words (t ∷ ts) (and_parts (length (t ∷ ts) == 3) (list_all is_word (t ∷ ts)) e).1

plain_lines : (lines : List Line) → list_all is_question lines ≡ true → PlainLines lines
plain_lines [] e = tt
plain_lines (l ∷ ls) e =
    let a = and_parts (is_question l) (list_all is_question ls) e in
    (plain_line l a.0, plain_lines ls a.1)

abbrev bare : List Line
bare = ([] ∷ []) ∷ []

-- an empty piece at the end is no line, and the others are
full_bare : (lines : List Line) → lines_among (lines ++ bare) ≡ lines
full_bare [] = refl
full_bare (l ∷ []) = refl
full_bare (l ∷ m ∷ ms) = ap (λ xs. l ∷ xs) (full_bare (m ∷ ms))

asked_not_bare : (line : Line) → is_question line ≡ true → is_bare line ≡ false
asked_not_bare [] e = refl
asked_not_bare ([] ∷ []) e = absurd (cc)
asked_not_bare ([] ∷ t ∷ ts) e = refl
asked_not_bare ((b ∷ bs) ∷ ts) e = refl

full_same : (lines : List Line) → list_all is_question lines ≡ true → lines_among lines ≡ lines
full_same [] e = refl
full_same (l ∷ []) e =
    ap (λ b. if b then [] else l ∷ []) (asked_not_bare l (and_parts (is_question l) true e).0)
full_same (l ∷ m ∷ ms) e =
    ap (λ xs. l ∷ xs) (full_same (m ∷ ms) (and_parts (is_question l) (list_all is_question (m ∷ ms)) e).1)

onto_more : (x : ℕ) (parts more : List (List ℕ)) → 0 < length parts → onto_first x (parts ++ more) ≡ onto_first x parts ++ more
onto_more x [] more h = absurd (omega arith)
onto_more x (part ∷ parts) more h = refl

split_more : (t : Bool) (x : ℕ) (parts ended : List (List ℕ)) → 0 < length parts → ended ≡ parts ++ [] ∷ []
    → cond t ([] ∷ ended) (onto_first x ended) ≡ cond t ([] ∷ parts) (onto_first x parts) ++ [] ∷ []
split_more true x parts ended h e = ap (λ ps. [] ∷ ps) e
split_more false x parts ended h e = ap (onto_first x) e ∙ onto_more x parts ([] ∷ []) h

split_ended : (bytes : List ℕ) → slice_split (λ b. b == 10) (bytes ++ 10 ∷ []) ≡ slice_split (λ b. b == 10) bytes ++ [] ∷ []
split_ended [] = refl
split_ended (x ∷ xs) =
    let parts = split_cons (λ b. b == 10) xs in
    split_more (x == 10) x (slice_split (λ b. b == 10) xs) _ (omega (arith, ap (λ ps. length ps) parts.2)) (split_ended xs)

lines_ended : (bytes : List ℕ) → lines_of (bytes ++ 10 ∷ []) ≡ lines_of bytes ++ bare
lines_ended bytes = ap (λ ps. map tokens_of ps) (split_ended bytes) ∙ map-append tokens_of (slice_split (λ b. b == 10) bytes) ([] ∷ [])

lines_of_text : (lines : List Line) → list_all is_question lines ≡ true → lines_of (text_of lines) ≡ lines ++ bare
lines_of_text lines e = ap lines_of (sym (append-nil (text_of lines))) ∙ lines_text lines [] (plain_lines lines e)

-- the lines of a list's text ask its questions
pub lines_asked : (questions : List Question) (bytes : List ℕ) → IsList questions bytes → cut_lines bytes ≡ map line_of questions
lines_asked questions bytes is = by is.text where
  lines : List Line
  lines = map line_of questions

  by : (text_of (map line_of questions) ≡ bytes) ⊎ (text_of (map line_of questions) ≡ bytes ++ 10 ∷ []) → cut_lines bytes ≡ map line_of questions
  by (inl e) = ap cut_lines (sym e) ∙ ap lines_among (lines_of_text (map line_of questions) is.words) ∙ full_bare (map line_of questions)
  by (inr e) =
      let same : lines_of bytes ≡ map line_of questions =
      sym (full_bare (lines_of bytes)) ∙ ap lines_among (sym (lines_ended bytes)) ∙ ap (λ b. lines_among (lines_of b)) (sym e)
      ∙ ap lines_among (lines_of_text (map line_of questions) is.words) ∙ full_bare (map line_of questions) in
      ap lines_among same ∙ full_same (map line_of questions) is.words

none_bad : (number : ℕ) (lines : List Line) → list_all is_question lines ≡ true → number + length lines ≤ 1001 → bad_from number lines ≡ None
none_bad number [] e h = refl
none_bad number (l ∷ ls) e h =
    let a = and_parts (is_question l) (list_all is_question ls) e in
    let test : nat_le number 1000 ≡ true = grind (arith, nat_tests) in
    ap (λ t. if t then bad_from (number + 1) ls else Some number) (and_from (is_question l) (nat_le number 1000) a.0 test)
    ∙ none_bad (number + 1) ls a.1 (omega arith)

length_lines : (questions : List Question) → length (map line_of questions) ≡ length questions
length_lines [] = refl
length_lines (q ∷ qs) = ap suc (length_lines qs)

pub list_has_no_bad_line : ListHasNoBadLine
list_has_no_bad_line questions bytes is =
    ap (bad_from 1) (lines_asked questions bytes is)
    ∙ none_bad 1 (map line_of questions) is.words (omega (arith, is.few, length_lines questions))

same_question : (q r : Question) → q.first ≡ r.first → q.second ≡ r.second → q.cert ≡ r.cert → q ≡ r
same_question q r a b c i = record { first = a i; second = b i; cert = c i }

same_questions : (one two : List Question) → map line_of one ≡ map line_of two → one ≡ two
same_questions [] [] e = refl
same_questions [] (q ∷ qs) e = absurd (cc)
same_questions (q ∷ qs) [] e = absurd (cc)
same_questions (q ∷ qs) (r ∷ rs) e =
    let first : q.first ≡ r.first = cc in
    let second : q.second ≡ r.second = cc in
    let cert : q.cert ≡ r.cert = cc in
    let tail : map line_of qs ≡ map line_of rs = cc in
    (λ i. same_question q r first second cert i ∷ same_questions qs rs tail i)

pub list_is_one : ListIsOne
list_is_one one two bytes a b = same_questions one two (sym (lines_asked one bytes a) ∙ lines_asked two bytes b)

-- an empty piece at the end is the only one that is no line
bare_or_line : (lines : List Line) → 0 < length lines → (lines ≡ lines_among lines ++ bare) ⊎ (lines ≡ lines_among lines)
bare_or_line [] h = absurd (omega arith)
bare_or_line ([] ∷ []) h = inr refl
bare_or_line (([] ∷ []) ∷ []) h = inl refl
bare_or_line (([] ∷ t ∷ ts) ∷ []) h = inr refl
bare_or_line (((b ∷ bs) ∷ ts) ∷ []) h = inr refl
bare_or_line (l ∷ m ∷ ms) h = by (bare_or_line (m ∷ ms) (omega arith)) where
  by : ((m ∷ ms) ≡ lines_among (m ∷ ms) ++ bare) ⊎ ((m ∷ ms) ≡ lines_among (m ∷ ms))
      → ((l ∷ m ∷ ms) ≡ lines_among (l ∷ m ∷ ms) ++ bare) ⊎ ((l ∷ m ∷ ms) ≡ lines_among (l ∷ m ∷ ms))
  by (inl e) = inl (ap (λ xs. l ∷ xs) e)
  by (inr e) = inr (ap (λ xs. l ∷ xs) e)

all_asked : (number : ℕ) (lines : List Line) → number ≤ 1001 → bad_from number lines ≡ None
    → (list_all is_question lines ≡ true) × (number + length lines ≤ 1001)
all_asked number [] h e = (refl, omega arith)
all_asked number (l ∷ ls) h e = by (is_question l && nat_le number 1000) refl (all_asked (number + 1) ls) where
  by : (t : Bool) → (is_question l && nat_le number 1000) ≡ t
      → (number + 1 ≤ 1001 → bad_from (number + 1) ls ≡ None → (list_all is_question ls ≡ true) × ((number + 1) + length ls ≤ 1001))
      → (list_all is_question (l ∷ ls) ≡ true) × (number + length (l ∷ ls) ≤ 1001)
  by true t later =
      let a = and_parts (is_question l) (nat_le number 1000) t in
      let few : number ≤ 1000 = leb-true number 1000 a.1 in
      let rest = later (omega arith) (sym (ap (λ t. if t then bad_from (number + 1) ls else Some number) t) ∙ e) in
      (and_from (is_question l) (list_all is_question ls) a.0 rest.0, omega (arith, rest.1))
  by false t later =
      let f = sym (ap (λ t. if t then bad_from (number + 1) ls else Some number) t) ∙ e in absurd (cc)

not_three : (n : ℕ) → (suc (suc (suc (suc n))) == 3) ≡ true → ⊥
not_three n e = grind (arith, nat_tests)

question_in : (line : Line) → is_question line ≡ true → (question : Question) × (line ≡ line_of question)
question_in [] e = absurd (cc)
question_in (a ∷ []) e = absurd (cc)
question_in (a ∷ b ∷ []) e = absurd (cc)
question_in (a ∷ b ∷ c ∷ []) e = (record { first = a; second = b; cert = c }, refl)
question_in (a ∷ b ∷ c ∷ d ∷ ts) e =
    absurd (not_three (length ts) (and_parts (length (a ∷ b ∷ c ∷ d ∷ ts) == 3) (list_all is_word (a ∷ b ∷ c ∷ d ∷ ts)) e).0)

questions_in : (lines : List Line) → list_all is_question lines ≡ true → (questions : List Question) × (lines ≡ map line_of questions)
questions_in [] e = ([], refl)
questions_in (l ∷ ls) e =
    let a = and_parts (is_question l) (list_all is_question ls) e in
    let here = question_in l a.0 in
    let later = questions_in ls a.1 in
    (here.0 ∷ later.0, λ i. here.1 i ∷ later.1 i)

whole_or_cut : (bytes : List ℕ) → (text_of (cut_lines bytes) ≡ bytes) ⊎ (text_of (cut_lines bytes) ≡ bytes ++ 10 ∷ [])
whole_or_cut bytes = by (bare_or_line (lines_of bytes) (some_line bytes)) where
  by : (lines_of bytes ≡ cut_lines bytes ++ bare) ⊎ (lines_of bytes ≡ cut_lines bytes)
      → (text_of (cut_lines bytes) ≡ bytes) ⊎ (text_of (cut_lines bytes) ≡ bytes ++ 10 ∷ [])
  by (inl e) = inl (sym (text_back bytes (cut_lines bytes) e))
  by (inr e) = inr (sym (text_back (bytes ++ 10 ∷ []) (cut_lines bytes) (lines_ended bytes ∙ ap (λ xs. xs ++ bare) e)))

pub text_without_a_bad_line_is_a_lists : TextWithoutABadLineIsALists
text_without_a_bad_line_is_a_lists bytes e =
    let all = all_asked 1 (cut_lines bytes) (omega arith) e in
    let qs = questions_in (cut_lines bytes) all.0 in (
      qs.0,
      record {
        words = ap (list_all is_question) (sym qs.1) ∙ all.0;
        few = omega (arith, all.1, length_lines qs.0, ap (λ xs. length xs) qs.1);
        text = subst (λ lines. (text_of lines ≡ bytes) ⊎ (text_of lines ≡ bytes ++ 10 ∷ [])) qs.1 (whole_or_cut bytes);
      },
    )

-- ---- the reader's clauses

abbrev pub Reads : List ℕ → Result (List Question) ListFault → Type 0
Reads bytes r = MatchResult r (λ questions. (first_bad bytes ≡ None) × IsList questions bytes) (TellsLine (first_bad bytes))

pub found_of : (bytes : List ℕ) (r : Result (List Question) ListFault) → Reads bytes r → IfOk r (λ questions. IsList questions bytes)
found_of bytes (Ok questions) h = h.1
found_of bytes (Err e) h = tt

pub only_of : (bytes : List ℕ) (r : Result (List Question) ListFault) (questions : List Question) → Reads bytes r → IsList questions bytes
    → (r ≡ Ok questions) ⊎ (r ≡ Err fault.Memory)
only_of bytes (Ok others) questions h is = inl (ap Ok (list_is_one others questions bytes h.1 is))
only_of bytes (Err (fault.Line line)) questions h is = let e = sym h ∙ list_has_no_bad_line questions bytes is in absurd (cc)
only_of bytes (Err fault.Memory) questions h is = inr refl

pub fault_of : (bytes : List ℕ) (r : Result (List Question) ListFault) (line : ℕ) → Reads bytes r → r ≡ Err (fault.Line line) → first_bad bytes ≡ Some line
fault_of bytes (Ok others) line h e = absurd (cc)
fault_of bytes (Err (fault.Line other)) line h e = let same : other ≡ line = cc in h ∙ ap Some same
fault_of bytes (Err fault.Memory) line h e = absurd (cc)

pub first_of : (bytes : List ℕ) (r : Result (List Question) ListFault) (line : ℕ) → Reads bytes r → first_bad bytes ≡ Some line
    → (r ≡ Err (fault.Line line)) ⊎ (r ≡ Err fault.Memory)
first_of bytes (Ok others) line h e = let f = sym h.0 ∙ e in absurd (cc)
first_of bytes (Err (fault.Line other)) line h e =
    let f = sym h ∙ e in
    let same : other ≡ line = cc in inl (ap (λ n. Err (fault.Line n)) same)
first_of bytes (Err fault.Memory) line h e = inr refl
