-- A written text, line by line.
use Rattle.std.proofs.Common.{◌≡◌, ℕ, suc, ◌+◌, ◌-◌, ◌%◌, ◌^◌, ◌<◌, ◌≤◌, Bool, true, false, not, cond, eqb, ltb, leb, ◌||◌, ◌&&◌, List, [], ◌∷◌, ◌++◌, length, map, reverse, drop, get_or, All, ◌⊎◌, None, count_by, refl, sym, ap, subst, ◌∙◌, true≢false, inl, inr, arith, if◌then◌else◌}
use Rattle.std.specs.Fmt.{decimal}
use Rattle.std.specs.Option.{option_or}
use Rattle.std.specs.List.{list_any, list_all, flat_map, slice_split, before_first, after_first, position_or_len}
use Rattle.std.proofs.lemmas.List.{append-nil, append_assoc, length-append, take_at, get_or-reverse, reverse-append, reverse-reverse, get_or_append_left as get_or-append}
use Rattle.std.proofs.lemmas.List.Folds.{list_any-append, list_all-append, flat_map-map}
use Rattle.std.proofs.lemmas.List.Splits.{slice_split_at}
use Rattle.std.proofs.lemmas.List.Elements.{All-head, All-tail, All-nil, All-cons}
use Rattle.std.proofs.lemmas.Grind.{flat_map-append}
use Rattle.std.proofs.lemmas.Bool.Decides.{nat_tests}
use Rattle.std.proofs.lemmas.Fmt.{decimal_by_steps, length-decimal-le}
use Rattle.auto_core.specs.declared.parts.Trans.{Trans}
use Rattle.auto_core.specs.Automaton.{Automaton, IsAutomaton}
use Rattle.ba_format.specs.declared.parts.Limits.{Limits}
use Rattle.ba_format.specs.Grammar.{NumberedLine, LineContent, StateLine, TransitionLine, is_blank, without_leading, trimmed, onto_lines, lines_from, lines_in, arrows, before_arrow, after_arrow, is_comma, content_of, is_bad, is_shaped, is_empty, is_long, token_fault, own_fault}
use Rattle.ba_format.specs.Cut.{is_newline}
use Rattle.ba_format.specs.Sight.{same_text}
use Rattle.ba_format.specs.Faults.{states_in, labels_in, transitions_in, same_trans, names_of, labels_of, transitions_of, is_state_line, opens_twice, later_fault, kind_of_line, or_later, first_fault, fault_of, contents_of}
use Rattle.ba_format.specs.Draft.{Fits}
use Rattle.ba_format.specs.Seen.{is_cut_shaped}
use Rattle.ba_format.specs.Writing.{name_text, transition_text, accepting_written, written}
use Rattle.ba_format.specs.Laws.{IsLabelText, IsWritable, WrittenReads}
use Rattle.ba_format.proofs.LineLemmas.{is_shaped-cut}
use Rattle.ba_format.proofs.DraftLemmas.{names-push, labels-push, transitions-push}
use Rattle.ba_format.proofs.TakeLemmas.{no_fault}
use Rattle.ba_format.proofs.NamedLemmas.{length-seen}
use Rattle.ba_format.proofs.ReadLemmas.{no_fault_text}

-- ---- digits

abbrev is_digit : ℕ → Bool
is_digit b = leb 48 b && leb b 57

digits_all : (n : ℕ) → n < 2 ^ 64 → list_all is_digit (decimal n) ≡ true
digits_all n h = decimal_by_steps (λ n ds. list_all is_digit ds ≡ true) one more n h
  where
    digit : (k : ℕ) → k < 10 → is_digit (48 + k) ≡ true
    digit k h = grind (arith, nat_tests)

    one : (n : ℕ) → n < 10 → list_all is_digit ((48 + n) ∷ []) ≡ true
    one n h = ap (λ b. b && true) (digit n h)

    more : (n : ℕ) (ds : List ℕ) → 10 ≤ n → list_all is_digit ds ≡ true → list_all is_digit (ds ++ ((48 + n % 10) ∷ [])) ≡ true
    more n ds big h =
        let last : n % 10 < 10 = omega arith in
        list_all-append is_digit ds ((48 + n % 10) ∷ []) ∙ (λ i. h i && (digit (n % 10) last i && true))

-- no digit passes a test that digits fail
none_of_digits : (p : ℕ → Bool) → ((b : ℕ) → is_digit b ≡ true → p b ≡ false) → (ds : List ℕ) → list_all is_digit ds ≡ true → list_any p ds ≡ false
none_of_digits p fails [] h = refl
none_of_digits p fails (d ∷ ds) h =
    let parts = both (is_digit d) (list_all is_digit ds) h in
    λ i. fails d parts.0 i || none_of_digits p fails ds parts.1 i
  where
    both : (a b : Bool) → (a && b) ≡ true → (a ≡ true) × (b ≡ true)
    both true b h = (refl, h)
    both false b h = absurd (true≢false (sym h))

-- ---- the name of a state

name-none : (p : ℕ → Bool) → p 91 ≡ false → p 93 ≡ false → ((b : ℕ) → is_digit b ≡ true → p b ≡ false) → (q : ℕ) → q < 2 ^ 64 → list_any p (name_text q) ≡ false
name-none p open' close fails q h =
    (λ i. open' i || (list_any-append p (decimal q) (93 ∷ []) ∙ (λ j. none_of_digits p fails (decimal q) (digits_all q h) j || (close j || false))) i)

name-length : (q : ℕ) → q ≤ 2 ^ 32 → (2 ≤ length (name_text q)) × (length (name_text q) ≤ 255)
name-length q h =
    let long = length-append (decimal q) (93 ∷ []) in
    let short = length-decimal-le 10 q (omega arith) (omega arith) (omega arith) in
    (omega (arith, long), omega (arith, long, short))

abbrev is_dash : ℕ → Bool
is_dash b = eqb b 45

name-no_bad : (q : ℕ) → q < 2 ^ 64 → list_any is_bad (name_text q) ≡ false
name-no_bad q h = name-none is_bad refl refl (λ b d. grind (arith, nat_tests)) q h

name-no_newline : (q : ℕ) → q < 2 ^ 64 → list_any is_newline (name_text q) ≡ false
name-no_newline q h = name-none is_newline refl refl (λ b d. grind (arith, nat_tests)) q h

name-no_comma : (q : ℕ) → q < 2 ^ 64 → list_any is_comma (name_text q) ≡ false
name-no_comma q h = name-none is_comma refl refl (λ b d. grind (arith, nat_tests)) q h

name-no_dash : (q : ℕ) → q < 2 ^ 64 → list_any is_dash (name_text q) ≡ false
name-no_dash q h = name-none is_dash refl refl (λ b d. grind (arith, nat_tests)) q h

-- ---- arrows

pub none_of : (a b : Bool) → (a || b) ≡ false → (a ≡ false) × (b ≡ false)
none_of true b h = absurd (true≢false h)
none_of false b h = (refl, h)

arrows-step : (a : ℕ) (l : List ℕ) → is_dash a ≡ false → arrows (a ∷ l) ≡ arrows l
arrows-step a [] h = refl
arrows-step a (b ∷ bs) h = ap (λ t. if (t && eqb b 62) then arrows (b ∷ bs) + 1 else arrows (b ∷ bs)) h

before-step : (a : ℕ) (l : List ℕ) → is_dash a ≡ false → before_arrow (a ∷ l) ≡ a ∷ before_arrow l
before-step a [] h = refl
before-step a (b ∷ bs) h = ap (λ t. if (t && eqb b 62) then [] else a ∷ before_arrow (b ∷ bs)) h

after-step : (a : ℕ) (l : List ℕ) → is_dash a ≡ false → after_arrow (a ∷ l) ≡ after_arrow l
after-step a [] h = refl
after-step a (b ∷ bs) h = ap (λ t. if (t && eqb b 62) then bs else after_arrow (b ∷ bs)) h

arrows-none : (xs : List ℕ) → list_any is_dash xs ≡ false → arrows xs ≡ 0
arrows-none [] h = refl
arrows-none (x ∷ xs) h = let parts = none_of (is_dash x) (list_any is_dash xs) h in arrows-step x xs parts.0 ∙ arrows-none xs parts.1

tail_arrows : (ys : List ℕ) → arrows (45 ∷ 62 ∷ ys) ≡ arrows ys + 1
tail_arrows ys = ap (λ n. n + 1) (arrows-step 62 ys refl)

arrows-cut_at : (xs ys : List ℕ) → list_any is_dash xs ≡ false → arrows (xs ++ 45 ∷ 62 ∷ ys) ≡ arrows ys + 1
arrows-cut_at [] ys h = tail_arrows ys
arrows-cut_at (x ∷ xs) ys h = let parts = none_of (is_dash x) (list_any is_dash xs) h in arrows-step x (xs ++ 45 ∷ 62 ∷ ys) parts.0 ∙ arrows-cut_at xs ys parts.1

before-cut_at : (xs ys : List ℕ) → list_any is_dash xs ≡ false → before_arrow (xs ++ 45 ∷ 62 ∷ ys) ≡ xs
before-cut_at [] ys h = refl
before-cut_at (x ∷ xs) ys h = let parts = none_of (is_dash x) (list_any is_dash xs) h in before-step x (xs ++ 45 ∷ 62 ∷ ys) parts.0 ∙ ap (λ l. x ∷ l) (before-cut_at xs ys parts.1)

after-cut_at : (xs ys : List ℕ) → list_any is_dash xs ≡ false → after_arrow (xs ++ 45 ∷ 62 ∷ ys) ≡ ys
after-cut_at [] ys h = refl
after-cut_at (x ∷ xs) ys h = let parts = none_of (is_dash x) (list_any is_dash xs) h in after-step x (xs ++ 45 ∷ 62 ∷ ys) parts.0 ∙ after-cut_at xs ys parts.1

-- ---- the first comma

first_at : (p : ℕ → Bool) (xs : List ℕ) (y : ℕ) (ys : List ℕ) → list_any p xs ≡ false → p y ≡ true → position_or_len p (xs ++ y ∷ ys) ≡ length xs
first_at p [] y ys h e = ap (λ b. cond (not b) (1 + position_or_len p ys) 0) e
first_at p (x ∷ xs) y ys h e =
    let parts = none_of (p x) (list_any p xs) h in
    ap (λ b. cond (not b) (1 + position_or_len p (xs ++ y ∷ ys)) 0) parts.0 ∙ omega (arith, first_at p xs y ys parts.1 e)

drop_past : (xs : List ℕ) (y : ℕ) (ys : List ℕ) → drop (length xs + 1) (xs ++ y ∷ ys) ≡ ys
drop_past [] y ys = refl
drop_past (x ∷ xs) y ys = let e : suc (length xs) + 1 ≡ suc (length xs + 1) = omega arith in ap (λ n. drop n (x ∷ (xs ++ y ∷ ys))) e ∙ drop_past xs y ys

before-first_at : (p : ℕ → Bool) (xs : List ℕ) (y : ℕ) (ys : List ℕ) → list_any p xs ≡ false → p y ≡ true → before_first p (xs ++ y ∷ ys) ≡ xs
before-first_at p xs y ys h e = take_at xs (y ∷ ys) (position_or_len p (xs ++ y ∷ ys)) (sym (first_at p xs y ys h e))

after-first_at : (p : ℕ → Bool) (xs : List ℕ) (y : ℕ) (ys : List ℕ) → list_any p xs ≡ false → p y ≡ true → after_first p (xs ++ y ∷ ys) ≡ ys
after-first_at p xs y ys h e = ap (λ n. drop (n + 1) (xs ++ y ∷ ys)) (first_at p xs y ys h e) ∙ drop_past xs y ys

-- ---- ends without blanks

leading_kept : (xs : List ℕ) → is_blank (get_or xs 0 0) ≡ false → without_leading xs ≡ xs
leading_kept [] h = refl
leading_kept (x ∷ xs) h = ap (λ b. if b then without_leading xs else x ∷ xs) h

trimmed_kept : (xs : List ℕ) → is_blank (get_or xs 0 0) ≡ false → is_blank (get_or (reverse xs) 0 0) ≡ false → trimmed xs ≡ xs
trimmed_kept xs a b = ap (λ l. reverse (without_leading (reverse l))) (leading_kept xs a) ∙ ap reverse (leading_kept (reverse xs) b) ∙ reverse-reverse xs

last_of : (xs : List ℕ) (y : ℕ) → get_or (reverse (xs ++ y ∷ [])) 0 0 ≡ y
last_of xs y = ap (λ l. get_or l 0 0) (reverse-append xs (y ∷ []))

name_kept : (q : ℕ) → trimmed (name_text q) ≡ name_text q
name_kept q = trimmed_kept (name_text q) refl (ap is_blank (last_of (91 ∷ decimal q) 93))

pub label_kept : (text : List ℕ) → IsLabelText text → trimmed text ≡ text
label_kept text l =
    trimmed_kept text l.begins (ap is_blank (get_or-reverse text 0 0 l.some ∙ ap (λ n. get_or text n 0) minus) ∙ l.ends)
  where
    minus : length text - 1 - 0 ≡ length text - 1
    minus = omega arith

-- ---- what a written line says

-- The line, as it stands, says this, and has no fault of its own.
pub record LineSays (line : List ℕ) (entry : LineContent) : Type 0 where
  pub kept : trimmed line ≡ line
  pub some : 0 < length line
  pub one : list_any is_newline line ≡ false
  pub own : own_fault line ≡ None
  pub says : content_of line ≡ entry

own_none : (line : List ℕ) (entry : LineContent) → list_any is_bad line ≡ false → is_shaped line ≡ true → content_of line ≡ entry → token_fault entry ≡ None → own_fault line ≡ None
own_none line entry good shaped says tokens =
    rw (good, shaped) (ap token_fault says ∙ tokens)

full_token : (token : List ℕ) → 0 < length token → length token ≤ 255 → (is_empty token ≡ false) × (is_long token ≡ false)
full_token token some short = (by_empty (length token) some, by_long (length token) short)
  where
    by_empty : (n : ℕ) → 0 < n → eqb n 0 ≡ false
    by_empty n h = grind (arith, nat_tests)

    by_long : (n : ℕ) → n ≤ 255 → ltb 255 n ≡ false
    by_long n h = grind (arith, nat_tests)

state_says : (q : ℕ) → q ≤ 2 ^ 32 → LineSays (name_text q) (StateLine (name_text q))
state_says q h =
    let big : q < 2 ^ 64 = omega arith in
    let no_comma = name-no_comma q big in
    let says : content_of (name_text q) ≡ StateLine (name_text q) =
    ap (λ b. if b then TransitionLine (trimmed (before_first is_comma (name_text q))) (trimmed (before_arrow (after_first is_comma (name_text q)))) (trimmed (after_arrow (after_first is_comma (name_text q)))) else StateLine (name_text q)) no_comma in
    let shaped : is_shaped (name_text q) ≡ true =
    ap (λ b. if b then (eqb (count_by is_comma (name_text q)) 1 && eqb (arrows (name_text q)) 1 && eqb (arrows (after_first is_comma (name_text q))) 1) else eqb (arrows (name_text q)) 0) no_comma
    ∙ ap (λ n. eqb n 0) (arrows-none (name_text q) (name-no_dash q big)) in
    let long = name-length q h in
    let token = full_token (name_text q) (omega (arith, long.0)) long.1 in
    let tokens : token_fault (StateLine (name_text q)) ≡ None = rw (token.0, token.1) refl in
    record {
      kept = name_kept q;
      some = omega (arith, long.0);
      one = name-no_newline q big;
      own = own_none (name_text q) (StateLine (name_text q)) (name-no_bad q big) shaped says tokens;
      says = says;
    }

-- the line of a transition, without its LF
abbrev pub transition_line : List ℕ → ℕ → ℕ → List ℕ
transition_line label p q = label ++ 44 ∷ (name_text p ++ 45 ∷ 62 ∷ name_text q)

-- a bad byte is a newline or another one
newline_bad : (text : List ℕ) → list_any is_bad text ≡ false → list_any is_newline text ≡ false
newline_bad [] h = refl
newline_bad (b ∷ bs) h =
    let parts = none_of (is_bad b) (list_any is_bad bs) h in
    λ i. one b parts.0 i || newline_bad bs parts.1 i
  where
    one : (b : ℕ) → is_bad b ≡ false → is_newline b ≡ false
    one b h = grind (arith, nat_tests)

-- the tests that neither names nor labels pass fail on the line
line-none : (p : ℕ → Bool) (label : List ℕ) (m n : List ℕ) → list_any p label ≡ false → list_any p m ≡ false → list_any p n ≡ false → p 44 ≡ false → p 45 ≡ false → p 62 ≡ false
    → list_any p (label ++ 44 ∷ (m ++ 45 ∷ 62 ∷ n)) ≡ false
line-none p label m n hl hm hn c d e =
    list_any-append p label (44 ∷ (m ++ 45 ∷ 62 ∷ n))
    ∙ (λ i. hl i || (c i || (list_any-append p m (45 ∷ 62 ∷ n) ∙ (λ j. hm j || (d j || (e j || hn j)))) i))

transition_says : (label : List ℕ) (p q : ℕ) → IsLabelText label → p ≤ 2 ^ 32 → q ≤ 2 ^ 32 → LineSays (transition_line label p q) (TransitionLine label (name_text p) (name_text q))
transition_says label p q l hp hq =
    let bigp : p < 2 ^ 64 = omega arith in
    let bigq : q < 2 ^ 64 = omega arith in
    let m = name_text p in
    let n = name_text q in
    let rest = m ++ 45 ∷ 62 ∷ n in
    let line = label ++ 44 ∷ rest in
    let comma : list_any is_comma line ≡ true = list_any-append is_comma label (44 ∷ rest) ∙ ap (λ b. b || true) l.no_comma in
    let before : before_first is_comma line ≡ label = before-first_at is_comma label 44 rest l.no_comma refl in
    let after : after_first is_comma line ≡ rest = after-first_at is_comma label 44 rest l.no_comma refl in
    let no_dash = name-no_dash p bigp in
    let shaped : is_shaped line ≡ true =
    is_shaped-cut line comma
    ∙ (λ i. is_cut_shaped (before i) (after i))
    ∙ cut_shaped label rest
    (list_any-append is_comma m (45 ∷ 62 ∷ n) ∙ (λ i. name-no_comma p bigp i || (false || (false || name-no_comma q bigq i))))
    l.no_arrow
    (arrows-cut_at m n no_dash ∙ ap (λ k. k + 1) (arrows-none n (name-no_dash q bigq))) in
    let says : content_of line ≡ TransitionLine label m n =
    ap (λ b. if b then TransitionLine (trimmed (before_first is_comma line)) (trimmed (before_arrow (after_first is_comma line))) (trimmed (after_arrow (after_first is_comma line))) else StateLine line) comma
    ∙ (λ i. TransitionLine (trimmed (before i)) (trimmed (before_arrow (after i))) (trimmed (after_arrow (after i))))
    ∙ (λ i. TransitionLine (label_kept label l i) (trimmed (before-cut_at m n no_dash i)) (trimmed (after-cut_at m n no_dash i)))
    ∙ (λ i. TransitionLine label (name_kept p i) (name_kept q i)) in
    let lp = name-length p hp in
    let lq = name-length q hq in
    let tl = full_token label l.some l.short in
    let tp = full_token m (omega (arith, lp.0)) lp.1 in
    let tq = full_token n (omega (arith, lq.0)) lq.1 in
    let tokens : token_fault (TransitionLine label m n) ≡ None = rw (tl.0, tp.0, tq.0, tl.1, tp.1, tq.1) refl in
    let good : list_any is_bad line ≡ false = line-none is_bad label m n l.good (name-no_bad p bigp) (name-no_bad q bigq) refl refl refl in
    record {
      kept = trimmed_kept line (ap is_blank (get_or-append label (44 ∷ rest) 0 0 l.some) ∙ l.begins) (ap is_blank (ends label m q));
      some = omega (arith, l.some, length-append label (44 ∷ rest));
      one = newline_bad line good;
      own = own_none line (TransitionLine label m n) good shaped says tokens;
      says = says;
    }
  where
    cut_shaped : (label rest : List ℕ) → list_any is_comma rest ≡ false → arrows label ≡ 0 → arrows rest ≡ 1 → is_cut_shaped label rest ≡ true
    cut_shaped label rest c a r = λ i. not (c i) && not (ltb 0 (a i)) && eqb (r i) 1

    -- the last byte is a bracket
    ends : (label m : List ℕ) (q : ℕ) → get_or (reverse (label ++ 44 ∷ (m ++ 45 ∷ 62 ∷ name_text q))) 0 0 ≡ 93
    ends label m q =
        ap (λ l. get_or (reverse l) 0 0)
        (sym (append_assoc label (44 ∷ (m ++ 45 ∷ 62 ∷ 91 ∷ decimal q)) (93 ∷ []) ∙ ap (λ l. label ++ 44 ∷ l) (append_assoc m (45 ∷ 62 ∷ 91 ∷ decimal q) (93 ∷ []))))
        ∙ last_of (label ++ 44 ∷ (m ++ 45 ∷ 62 ∷ 91 ∷ decimal q)) 93

-- ---- the lines of a text that ends each of them

-- Each line says its entry.
abbrev pub AllSay : List (List ℕ) → List LineContent → Type 0
AllSay [] [] = Unit {0}
AllSay [] (e ∷ es) = ⊥
AllSay (l ∷ ls) [] = ⊥
AllSay (l ∷ ls) (e ∷ es) = LineSays l e × AllSay ls es

-- the lines, each ended by LF
abbrev pub ended : List (List ℕ) → List ℕ
ended lines = flat_map (λ l. l ++ 10 ∷ []) lines

-- the lines with their numbers
abbrev pub numbered : ℕ → List (List ℕ) → List NumberedLine
numbered n [] = []
numbered n (l ∷ ls) = record { number = n; text = l } ∷ numbered (n + 1) ls

none_all : (p : ℕ → Bool) (xs : List ℕ) → list_any p xs ≡ false → All (λ x. p x ≡ false) xs
none_all p [] h = All-nil (λ x. p x ≡ false)
none_all p (x ∷ xs) h = let parts = none_of (p x) (list_any p xs) h in All-cons (λ x. p x ≡ false) x xs parts.0 (none_all p xs parts.1)

split-ended : (lines : List (List ℕ)) (entries : List LineContent) → AllSay lines entries → slice_split is_newline (ended lines) ≡ lines ++ [] ∷ []
split-ended [] [] h = refl
split-ended [] (e ∷ es) h = absurd h
split-ended (l ∷ ls) [] h = absurd h
split-ended (l ∷ ls) (e ∷ es) h =
    ap (slice_split is_newline) (append_assoc l (10 ∷ []) (ended ls))
    ∙ slice_split_at is_newline l 10 (ended ls) (none_all is_newline l h.0.one) refl
    ∙ ap (λ x. l ∷ x) (split-ended ls es h.1)

onto-line : (n : ℕ) (l : List ℕ) (lines : List NumberedLine) → trimmed l ≡ l → 0 < length l → onto_lines n (trimmed l) lines ≡ record { number = n; text = l } ∷ lines
onto-line n [] lines e h = absurd (omega arith)
onto-line n (b ∷ bs) lines e h = ap (λ t. onto_lines n t lines) e

lines-ended : (n : ℕ) (lines : List (List ℕ)) (entries : List LineContent) → AllSay lines entries → lines_from n (lines ++ [] ∷ []) ≡ numbered n lines
lines-ended n [] [] h = refl
lines-ended n [] (e ∷ es) h = absurd h
lines-ended n (l ∷ ls) [] h = absurd h
lines-ended n (l ∷ ls) (e ∷ es) h = onto-line n l (lines_from (n + 1) (ls ++ [] ∷ [])) h.0.kept h.0.some ∙ ap (λ x. record { number = n; text = l } ∷ x) (lines-ended (n + 1) ls es h.1)

lines_in-ended : (lines : List (List ℕ)) (entries : List LineContent) → AllSay lines entries → lines_in (ended lines) ≡ numbered 1 lines
lines_in-ended lines entries h = ap (lines_from 1) (split-ended lines entries h) ∙ lines-ended 1 lines entries h

entries-numbered : (n : ℕ) (lines : List (List ℕ)) (entries : List LineContent) → AllSay lines entries → map (λ l. content_of l.text) (numbered n lines) ≡ entries
entries-numbered n [] [] h = refl
entries-numbered n [] (e ∷ es) h = absurd h
entries-numbered n (l ∷ ls) [] h = absurd h
entries-numbered n (l ∷ ls) (e ∷ es) h = λ i. h.0.says i ∷ entries-numbered (n + 1) ls es h.1 i

pub entries-ended : (lines : List (List ℕ)) (entries : List LineContent) → AllSay lines entries → contents_of (ended lines) ≡ entries
entries-ended lines entries h = ap (map (λ l. content_of l.text)) (lines_in-ended lines entries h) ∙ entries-numbered 1 lines entries h

-- ---- no fault

-- No first transition line stands behind two state lines.
abbrev pub Orderly : List LineContent → List LineContent → Type 0
Orderly earlier [] = Unit {0}
Orderly earlier (e ∷ es) = (opens_twice earlier e ≡ false) × Orderly (earlier ++ e ∷ []) es

-- counts of the first lines are no greater than those of all
fits-front : (limits : Limits) (es xs : List LineContent) → Fits limits (xs ++ es) → Fits limits xs
fits-front limits [] xs f = subst (Fits limits) (append-nil xs) f
fits-front limits (e ∷ es) xs f =
    let g = fits-front limits es (xs ++ e ∷ []) (subst (Fits limits) (sym (append_assoc xs (e ∷ []) es)) f) in
    record {
      states = omega (arith, g.states, ap length (names-push xs e), length-seen same_text (names_of xs) (states_in e));
      labels = omega (arith, g.labels, ap length (labels-push xs e), length-seen same_text (labels_of xs) (labels_in e));
      transitions = omega (arith, g.transitions, ap length (transitions-push xs e), length-seen same_trans (transitions_of xs) (transitions_in (names_of (xs ++ e ∷ [])) (labels_of (xs ++ e ∷ [])) e));
    }

no_first_fault : (limits : Limits) (n : ℕ) (lines : List (List ℕ)) (earlier entries : List LineContent) → AllSay lines entries → Orderly earlier entries → Fits limits (earlier ++ entries)
    → first_fault limits earlier (numbered n lines) ≡ None
no_first_fault limits n [] earlier [] h o f = refl
no_first_fault limits n [] earlier (e ∷ es) h o f = absurd h
no_first_fault limits n (l ∷ ls) earlier [] h o f = absurd h
no_first_fault limits n (l ∷ ls) earlier (e ∷ es) h o f =
    let all = subst (Fits limits) (sym (append_assoc earlier (e ∷ []) es)) f in
    let kind : kind_of_line limits earlier l ≡ None =
    ap (λ own. option_or own (later_fault limits earlier (content_of l))) h.0.own
    ∙ ap (later_fault limits earlier) h.0.says
    ∙ no_fault limits earlier e o.0 (fits-front limits es (earlier ++ e ∷ []) all) in
    ap (λ k. or_later n k (first_fault limits (earlier ++ content_of l ∷ []) (numbered (n + 1) ls))) kind
    ∙ ap (λ x. first_fault limits (earlier ++ x ∷ []) (numbered (n + 1) ls)) h.0.says
    ∙ no_first_fault limits (n + 1) ls (earlier ++ e ∷ []) es h.1 o.1 all

pub no_fault-ended : (limits : Limits) (lines : List (List ℕ)) (entries : List LineContent) → AllSay lines entries → Orderly [] entries → 0 < length entries → Fits limits entries → fault_of (ended lines) limits ≡ None
no_fault-ended limits lines entries h o some f =
    no_fault_text limits (ended lines) (subst (λ es. 0 < length es) (sym (entries-ended lines entries h)) some)
    (ap (first_fault limits []) (lines_in-ended lines entries h) ∙ no_first_fault limits 1 lines [] entries h o f)

-- ---- the written text

-- what the line of a transition says
abbrev pub transition_entry_of : List (List ℕ) → Trans → LineContent
transition_entry_of labels t = TransitionLine (get_or labels t.label []) (name_text t.source) (name_text t.target)

abbrev pub line_of : List (List ℕ) → Trans → List ℕ
line_of labels t = transition_line (get_or labels t.label []) t.source t.target

abbrev pub written_lines : Automaton → List (List ℕ) → List (List ℕ)
written_lines A labels = name_text A.initial ∷ (map (line_of labels) A.transitions ++ map name_text (accepting_written A))

abbrev pub written_entries : Automaton → List (List ℕ) → List LineContent
written_entries A labels = StateLine (name_text A.initial) ∷ (map (transition_entry_of labels) A.transitions ++ map (λ q. StateLine (name_text q)) (accepting_written A))

transition_text-ended : (labels : List (List ℕ)) (t : Trans) → line_of labels t ++ 10 ∷ [] ≡ transition_text labels t
transition_text-ended labels t =
    append_assoc (get_or labels t.label []) (44 ∷ (name_text t.source ++ 45 ∷ 62 ∷ name_text t.target)) (10 ∷ [])
    ∙ ap (λ l. get_or labels t.label [] ++ 44 ∷ l) (append_assoc (name_text t.source) (45 ∷ 62 ∷ name_text t.target) (10 ∷ []))

pub written-ended : (A : Automaton) (labels : List (List ℕ)) → ended (written_lines A labels) ≡ written A labels
written-ended A labels =
    ap (λ l. (name_text A.initial ++ 10 ∷ []) ++ l)
    (flat_map-append (λ l. l ++ 10 ∷ []) (map (line_of labels) A.transitions) (map name_text (accepting_written A))
    ∙ (λ i.
    (flat_map-map (λ l. l ++ 10 ∷ []) (line_of labels) A.transitions ∙ (λ j. flat_map (λ t. transition_text-ended labels t j) A.transitions)) i
    ++ flat_map-map (λ l. l ++ 10 ∷ []) name_text (accepting_written A) i))

AllSay-append : (ls ms : List (List ℕ)) (es fs : List LineContent) → AllSay ls es → AllSay ms fs → AllSay (ls ++ ms) (es ++ fs)
AllSay-append [] ms [] fs h g = g
AllSay-append [] ms (e ∷ es) fs h g = absurd h
AllSay-append (l ∷ ls) ms [] fs h g = absurd h
AllSay-append (l ∷ ls) ms (e ∷ es) fs h g = (h.0, AllSay-append ls ms es fs h.1 g)

AllSay-map : {X : Type 0} (f : X → List ℕ) (g : X → LineContent) (xs : List X) → All (λ x. LineSays (f x) (g x)) xs → AllSay (map f xs) (map g xs)
AllSay-map f g [] h = tt
AllSay-map f g (x ∷ xs) h = (All-head (λ x. LineSays (f x) (g x)) x xs h, AllSay-map f g xs (All-tail (λ x. LineSays (f x) (g x)) x xs h))

accepting_small : (A : Automaton) → IsAutomaton A → (b : Bool) → All (λ q. q ≤ 2 ^ 32) (if b then A.states ∷ [] else A.accepting)
accepting_small A v true = All-cons (λ q. q ≤ 2 ^ 32) A.states [] (omega (arith, v.states_fit)) (All-nil (λ q. q ≤ 2 ^ 32))
accepting_small A v false = λ k d lt. omega (arith, v.accepting_in_range k d lt, v.states_fit)

pub written_say : (A : Automaton) (labels : List (List ℕ)) → IsWritable A labels → AllSay (written_lines A labels) (written_entries A labels)
written_say A labels w =
    let v = w.valid in (
      state_says A.initial (omega (arith, v.initial_is_state, v.states_fit)),
      AllSay-append (map (line_of labels) A.transitions) (map name_text (accepting_written A)) (map (transition_entry_of labels) A.transitions) (map (λ q. StateLine (name_text q)) (accepting_written A))
          (AllSay-map (line_of labels) (transition_entry_of labels) A.transitions (λ k d lt.
          let t = get_or A.transitions k d in
          let r = v.in_range k d lt in
          transition_says (get_or labels t.label []) t.source t.target (w.fit t.label [] (omega (arith, r.2, w.all_named))) (omega (arith, r.0, v.states_fit)) (omega (arith, r.1, v.states_fit))))
          (AllSay-map name_text (λ q. StateLine (name_text q)) (accepting_written A) (λ k d lt.
          state_says (get_or (accepting_written A) k d) (accepting_small A v (eqb (length A.accepting) 0) k d lt))),
    )

-- one line, or a transition line among them
abbrev StartsOnce : List LineContent → Type 0
StartsOnce earlier = (length earlier ≡ 1) ⊎ (list_all is_state_line earlier ≡ false)

orderly_states : (earlier : List LineContent) (qs : List ℕ) → Orderly earlier (map (λ q. StateLine (name_text q)) qs)
orderly_states earlier [] = tt
orderly_states earlier (q ∷ qs) = (refl, orderly_states (earlier ++ StateLine (name_text q) ∷ []) qs)

orderly_transitions : (labels : List (List ℕ)) (earlier : List LineContent) (ts : List Trans) (qs : List ℕ) → StartsOnce earlier
    → Orderly earlier (map (transition_entry_of labels) ts ++ map (λ q. StateLine (name_text q)) qs)
orderly_transitions labels earlier [] qs h = orderly_states earlier qs
orderly_transitions labels earlier (t ∷ ts) qs h =
    (once h, orderly_transitions labels (earlier ++ transition_entry_of labels t ∷ []) ts qs (inr (list_all-append is_state_line earlier (transition_entry_of labels t ∷ []) ∙ and_false (list_all is_state_line earlier))))
  where
    and_false : (b : Bool) → (b && false) ≡ false
    and_false true = refl
    and_false false = refl

    once : StartsOnce earlier → (list_all is_state_line earlier && leb 2 (length earlier)) ≡ false
    once (inl e) = ap (λ n. list_all is_state_line earlier && leb 2 n) e ∙ and_false (list_all is_state_line earlier)
    once (inr e) = ap (λ b. b && leb 2 (length earlier)) e

pub written_orderly : (A : Automaton) (labels : List (List ℕ)) → Orderly [] (written_entries A labels)
written_orderly A labels = (refl, orderly_transitions labels (StateLine (name_text A.initial) ∷ []) A.transitions (accepting_written A) (inl refl))

pub contents_of-written : (A : Automaton) (labels : List (List ℕ)) → IsWritable A labels → contents_of (written A labels) ≡ written_entries A labels
contents_of-written A labels w = ap contents_of (sym (written-ended A labels)) ∙ entries-ended (written_lines A labels) (written_entries A labels) (written_say A labels w)

pub written_reads : WrittenReads
written_reads A labels limits w counts =
    let same = contents_of-written A labels w in
    let fits : Fits limits (written_entries A labels) =
    subst (Fits limits) same (record { states = counts.states; labels = counts.labels; transitions = counts.transitions }) in
    ap (λ t. fault_of t limits) (sym (written-ended A labels))
    ∙ no_fault-ended limits (written_lines A labels) (written_entries A labels) (written_say A labels w) (written_orderly A labels) (omega arith) fits
