-- Lemmas on where the first line of a text ends.
use Rattle.std.proofs.Common.{◌≡◌, ℕ, ◌+◌, ◌-◌, ◌<◌, ◌≤◌, Bool, true, false, not, cond, eqb, ltb, position, List, [], ◌∷◌, ◌++◌, All, length, take, drop, get_or, take_all, length-drop, append_assoc, None, Some, refl, sym, ap, subst, ◌∙◌, arith, ⊎_elim}
use Rattle.std.specs.List.{before_first, after_first, position_or_len}
use Rattle.std.proofs.lemmas.List.{length-append, take-append-le, drop-append-le}
use Rattle.std.proofs.Math.Seq.{take-append-add, drop-append-add}
use Rattle.std.proofs.lemmas.List.Folds.{prefix_len-append}
use Rattle.std.proofs.lemmas.List.Sums.{prefix_len-le-length, split_at_first, fails_before_first, passes_at_first}
use Rattle.std.proofs.lemmas.List.Elements.{All-nil, All-cons, All-head, All-tail}
use Rattle.std.proofs.lemmas.Grind.{common_steps}
use Rattle.std.proofs.lemmas.Bool.{cases_Bool, eqb-true, eq-eqb, ltb-false, ltb-true, false≢true}
use Rattle.ba_format.specs.Cut.{is_newline, HasNewline, IsUnfinished, IsLineCut}

-- ---- where the first line ends

same_or : (b : Bool) (n m : ℕ) → b ≡ false → cond b n m ≡ m
same_or true n m e = absurd (false≢true (sym e))
same_or false n m e = refl

place_more : (text more : List ℕ) → HasNewline text → position_or_len is_newline (text ++ more) ≡ position_or_len is_newline text
place_more text more has = prefix_len-append (λ b. not (is_newline b)) text more ∙ same_or _ _ _ (differs (position_or_len is_newline text) (length text) has)
  where
    differs : (a b : ℕ) → a < b → eqb a b ≡ false
    differs a b lt = go (eqb a b) refl
      where
        go : (t : Bool) → eqb a b ≡ t → t ≡ false
        go true e = absurd (let same = eqb-true a b e in omega arith)
        go false e = refl

pub has_more : (text more : List ℕ) → HasNewline text → HasNewline (text ++ more)
has_more text more has = omega (arith, place_more text more has, length-append text more)

pub before_more : (text more : List ℕ) → HasNewline text → before_first is_newline (text ++ more) ≡ before_first is_newline text
before_more text more has =
    ap (λ n. take n (text ++ more)) (place_more text more has) ∙ take-append-le (position_or_len is_newline text) text more (omega arith)

pub after_more : (text more : List ℕ) → HasNewline text → after_first is_newline (text ++ more) ≡ after_first is_newline text ++ more
after_more text more has =
    ap (λ n. drop (n + 1) (text ++ more)) (place_more text more has) ∙ drop-append-le (position_or_len is_newline text + 1) text more (omega arith)

pub unfinished_from : (text : List ℕ) → position is_newline text ≡ None → IsUnfinished text
unfinished_from text e = by (ltb (position_or_len is_newline text) (length text)) refl e
  where
    by : (b : Bool) → ltb (position_or_len is_newline text) (length text) ≡ b → cond b (Some (position_or_len is_newline text)) None ≡ None → IsUnfinished text
    by true t h = cc
    by false t h = (let low = prefix_len-le-length (λ b. not (is_newline b)) text in omega (arith, low, ltb-false _ _ t))

pub has_from : (text : List ℕ) (at : ℕ) → position is_newline text ≡ Some at → HasNewline text × (position_or_len is_newline text ≡ at)
has_from text at e = by (ltb (position_or_len is_newline text) (length text)) refl e
  where
    by : (b : Bool) → ltb (position_or_len is_newline text) (length text) ≡ b → cond b (Some (position_or_len is_newline text)) None ≡ Some at → HasNewline text × (position_or_len is_newline text ≡ at)
    by true t h = (ltb-true _ _ t, cc)
    by false t h = cc

-- a line that has not ended goes on
place_on : (line more : List ℕ) → IsUnfinished line → position_or_len is_newline (line ++ more) ≡ length line + position_or_len is_newline more
place_on line more none =
    prefix_len-append (λ b. not (is_newline b)) line more ∙ same_then _ _ _ (eq-eqb _ _ none)
  where
    same_then : (b : Bool) (n m : ℕ) → b ≡ true → cond b n m ≡ n
    same_then true n m e = refl
    same_then false n m e = absurd (false≢true e)

pub has_on : (line more : List ℕ) → IsUnfinished line → HasNewline more → HasNewline (line ++ more)
has_on line more none has = omega (arith, place_on line more none, length-append line more)

pub unfinished_on : (line more : List ℕ) → IsUnfinished line → IsUnfinished more → IsUnfinished (line ++ more)
unfinished_on line more none none' = omega (arith, place_on line more none, length-append line more)

pub before_on : (line more : List ℕ) → IsUnfinished line → before_first is_newline (line ++ more) ≡ line ++ before_first is_newline more
before_on line more none =
    ap (λ n. take n (line ++ more)) (place_on line more none) ∙ take-append-add line more (position_or_len is_newline more)

pub after_on : (line more : List ℕ) → IsUnfinished line → after_first is_newline (line ++ more) ≡ after_first is_newline more
after_on line more none =
    ap (λ n. drop n (line ++ more)) (omega (arith, place_on line more none)) ∙ drop-append-add line more (position_or_len is_newline more + 1)

-- ---- a line and what follows its LF

-- nowhere in an unfinished text is an LF
pub none_in : (text : List ℕ) → length text ≤ position_or_len is_newline text → All (λ b. is_newline b ≡ false) text
none_in [] h = All-nil (λ b. is_newline b ≡ false)
none_in (x ∷ xs) h =
    ⊎_elim (λ t. let g = rw t at h in absurd (omega arith))
    (λ f. let g = rw f at h in All-cons (λ b. is_newline b ≡ false) x xs f (none_in xs (omega arith)))
    (cases_Bool (is_newline x))

unfinished_all : (text : List ℕ) → All (λ b. is_newline b ≡ false) text → IsUnfinished text
unfinished_all [] all = refl
unfinished_all (x ∷ xs) all =
    let f = All-head (λ b. is_newline b ≡ false) x xs all in
    let rest = unfinished_all xs (All-tail (λ b. is_newline b ≡ false) x xs all) in
    rw f (omega (arith, rest))

pub cut_of : (text : List ℕ) → HasNewline text → IsLineCut text (before_first is_newline text) (after_first is_newline text)
cut_of text has =
    let front : All (λ b. is_newline b ≡ false) (before_first is_newline text) =
    λ k d m. let k' = fails_before_first is_newline text k d (grind (arith, common_steps)) in grind (arith, common_steps) in
    let lf = eqb-true (get_or text (position_or_len is_newline text) 0) 10 (passes_at_first is_newline text 0 has) in (
      unfinished_all (before_first is_newline text) front,
      split_at_first is_newline text 0 has ∙ ap (λ b. before_first is_newline text ++ b ∷ after_first is_newline text) lf,
    )

pub cut_some : (text : List ℕ) (at : ℕ) → position is_newline text ≡ Some at → IsLineCut text (take at text) (take (length text - (at + 1)) (drop (at + 1) text))
cut_some text at e =
    let (has, same) = has_from text at e in
    let cut = subst (λ n. IsLineCut text (take n text) (drop (n + 1) text)) same (cut_of text has) in
    let all = take_all (length text - (at + 1)) (drop (at + 1) text) (omega (arith, length-drop (at + 1) text)) in
    subst (IsLineCut text (take at text)) (sym all) cut

pub cut_on : (line more first rest : List ℕ) → IsUnfinished line → IsLineCut more first rest → IsLineCut (line ++ more) (line ++ first) rest
cut_on line more first rest none cut =
    (unfinished_on line first none cut.0, ap (λ xs. line ++ xs) cut.1 ∙ sym (append_assoc line first (10 ∷ rest)))
