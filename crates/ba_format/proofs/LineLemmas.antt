-- Lemmas on the shape of a line.
use Rattle.std.proofs.Common.{◌≡◌, ℕ, suc, ◌+◌, ◌<◌, ◌≤◌, Bool, true, false, not, cond, eqb, ltb, ◌||◌, ◌&&◌, List, [], ◌∷◌, ◌++◌, length, take, drop, get_or, position, Option, None, Some, MatchOption, refl, sym, ap, ◌∙◌, true≢false, arith, count_by, if◌then◌else◌}
use Rattle.std.specs.List.{list_any, position_or_len, before_first, after_first}
use Rattle.std.proofs.Math.Seq.{drop-cons, take-suc}
use Rattle.std.proofs.lemmas.List.{append-nil, append_assoc, length-drop}
use Rattle.std.proofs.lemmas.List.Sums.{split_at_first, passes_at_first, sum_by-cons, sum_by-append}
use Rattle.std.proofs.lemmas.Bool.Decides.{nat_tests}
use Rattle.ba_format.specs.Grammar.{arrows, before_arrow, after_arrow, is_comma, is_shaped, content_of, StateLine}
use Rattle.ba_format.specs.Seen.{is_cut_shaped, transition_entry, entry_seen}
use Rattle.ba_format.specs.declared.lines.Said.{Said}

-- the first place that passes lies within where one passes
pub place_within : {X : Type 0} (p : X → Bool) (xs : List X) → ltb (position_or_len p xs) (length xs) ≡ list_any p xs
place_within p [] = refl
place_within p (x ∷ xs) = by (p x) (position_or_len p xs) (length xs) ∙ ap (λ b. p x || b) (place_within p xs)
  where
    by : (b : Bool) (m n : ℕ) → ltb (cond (not b) (1 + m) 0) (suc n) ≡ (b || ltb m n)
    by true m n = grind (arith, nat_tests)
    by false m n = grind (arith, nat_tests)

pub place_found : {X : Type 0} (p : X → Bool) (xs : List X) (i : ℕ) → position p xs ≡ Some i → (list_any p xs ≡ true) × (i ≡ position_or_len p xs)
place_found p xs i e = by _ _ (place_within p xs) e
  where
    by : (b d : Bool) → b ≡ d → cond b (Some (position_or_len p xs)) None ≡ Some i → (d ≡ true) × (i ≡ position_or_len p xs)
    by true d e h = (sym e, cc)
    by false d e h = cc

pub place_missing : {X : Type 0} (p : X → Bool) (xs : List X) → position p xs ≡ None → list_any p xs ≡ false
place_missing p xs e = by _ _ (place_within p xs) e
  where
    by : (b d : Bool) → b ≡ d → cond b (Some (position_or_len p xs)) None ≡ None → d ≡ false
    by true d e h = cc
    by false d e h = sym e

-- ---- arrows

-- a comma or a `>` begins no arrow
comma_skip : (bs : List ℕ) → arrows (44 ∷ bs) ≡ arrows bs
comma_skip [] = refl
comma_skip (c ∷ cs) = refl

-- where the two bytes are no arrow, the search goes on behind the first
pub arrow_not_here : (a b : ℕ) (bs : List ℕ) → (a ≡ 45 → b ≡ 62 → ⊥) → ((eqb a 45 && eqb b 62) ≡ false)
arrow_not_here a b bs h = grind (arith, nat_tests)

-- the search for `->` has come to place i
abbrev pub Searched : List ℕ → ℕ → Type 0
Searched text i =
    (arrows text ≡ arrows (drop i text)) × (before_arrow text ≡ take i text ++ before_arrow (drop i text)) × (after_arrow text ≡ after_arrow (drop i text))

-- the two bytes at a place
two_at : (text : List ℕ) (i : ℕ) → suc i < length text → drop i text ≡ get_or text i 0 ∷ get_or text (suc i) 0 ∷ drop (suc (suc i)) text
two_at text i h = drop-cons text i 0 (omega arith) ∙ ap (λ l. get_or text i 0 ∷ l) (drop-cons text (suc i) 0 h)

-- a `>` begins no arrow
arrows-skip : (b : ℕ) (bs : List ℕ) → b ≡ 62 → arrows (b ∷ bs) ≡ arrows bs
arrows-skip b [] e = refl
arrows-skip b (c ∷ cs) e = ap (λ t. if t then arrows (c ∷ cs) + 1 else arrows (c ∷ cs)) (arrow_not_here b c [] (λ f _. omega arith))

arrows-short : (bs : List ℕ) → length bs ≤ 1 → arrows bs ≡ 0
arrows-short [] h = refl
arrows-short (a ∷ []) h = refl
arrows-short (a ∷ b ∷ bs) h = absurd (omega arith)

pub Searched-more : (text : List ℕ) (i : ℕ) → suc i < length text → (get_or text i 0 ≡ 45 → get_or text (suc i) 0 ≡ 62 → ⊥) → Searched text i → Searched text (suc i)
Searched-more text i h none s =
    let a = get_or text i 0 in
    let b = get_or text (suc i) 0 in
    let rest = drop (suc (suc i)) text in
    let cut = two_at text i h in
    let next = drop-cons text (suc i) 0 h in
    let test = arrow_not_here a b rest none in (
      s.0 ∙ ap arrows cut ∙ ap (λ t. if t then arrows (b ∷ rest) + 1 else arrows (b ∷ rest)) test ∙ sym (ap arrows next),
      s.1
          ∙ ap (λ l. take i text ++ before_arrow l) cut
          ∙ ap (λ t. take i text ++ (if t then [] else a ∷ before_arrow (b ∷ rest))) test
          ∙ sym (append_assoc (take i text) (a ∷ []) (before_arrow (b ∷ rest)))
          ∙ ap (λ l. l ++ before_arrow (b ∷ rest)) (sym (take-suc text i 0 (omega arith)))
          ∙ ap (λ l. take (suc i) text ++ before_arrow l) (sym next),
      s.2 ∙ ap after_arrow cut ∙ ap (λ t. if t then rest else after_arrow (b ∷ rest)) test ∙ sym (ap after_arrow next),
    )

pub Searched-found : (text : List ℕ) (i : ℕ) → suc i < length text → get_or text i 0 ≡ 45 → get_or text (suc i) 0 ≡ 62 → Searched text i
    → (arrows text ≡ arrows (drop (suc (suc i)) text) + 1) × (take i text ≡ before_arrow text) × (drop (suc (suc i)) text ≡ after_arrow text)
Searched-found text i h ha hb s =
    let a = get_or text i 0 in
    let b = get_or text (suc i) 0 in
    let rest = drop (suc (suc i)) text in
    let cut = two_at text i h in
    let test : (eqb a 45 && eqb b 62) ≡ true = grind (arith, nat_tests) in (
      s.0 ∙ ap arrows cut ∙ ap (λ t. if t then arrows (b ∷ rest) + 1 else arrows (b ∷ rest)) test ∙ ap (λ n. n + 1) (arrows-skip b rest hb),
      sym (
          s.1
          ∙ ap (λ l. take i text ++ before_arrow l) cut
          ∙ ap (λ t. take i text ++ (if t then [] else a ∷ before_arrow (b ∷ rest))) test
          ∙ append-nil (take i text)
          ),
      sym (s.2 ∙ ap after_arrow cut ∙ ap (λ t. if t then rest else after_arrow (b ∷ rest)) test),
    )

pub Searched-end : (text : List ℕ) (i : ℕ) → length text ≤ suc i → Searched text i → arrows text ≡ 0
Searched-end text i h s = s.0 ∙ arrows-short (drop i text) (omega (arith, length-drop i text))

-- ---- a line cut at its first comma

count-cons : {X : Type 0} (p : X → Bool) (x : X) (xs : List X) → count_by p (x ∷ xs) ≡ cond (p x) 1 0 + count_by p xs
count-cons p x xs = sum_by-cons (λ y. cond (p y) 1 0) x xs

pub count-none : {X : Type 0} (p : X → Bool) (xs : List X) → list_any p xs ≡ false → count_by p xs ≡ 0
count-none p [] h = refl
count-none p (x ∷ xs) h =
    let parts = none_of (p x) (list_any p xs) h in
    count-cons p x xs ∙ (λ i. cond (parts.0 i) 1 0 + count-none p xs parts.1 i)
  where
    none_of : (b d : Bool) → (b || d) ≡ false → (b ≡ false) × (d ≡ false)
    none_of true d h = absurd (true≢false h)
    none_of false d h = (refl, h)

-- no comma stands before the first one
pub before-none : {X : Type 0} (p : X → Bool) (xs : List X) → list_any p (before_first p xs) ≡ false
before-none p [] = refl
before-none p (x ∷ xs) = by (p x) refl (before-none p xs)
  where
    by : (b : Bool) → p x ≡ b → list_any p (before_first p xs) ≡ false → list_any p (take (cond (not b) (1 + position_or_len p xs) 0) (x ∷ xs)) ≡ false
    by true e rest = refl
    by false e rest =
        let one : 1 + position_or_len p xs ≡ suc (position_or_len p xs) = omega arith in
        ap (λ n. list_any p (take n (x ∷ xs))) one ∙ ap (λ b. b || list_any p (before_first p xs)) e ∙ rest

-- a line with a comma is cut at the first one
pub cut_at : (line : List ℕ) → list_any is_comma line ≡ true → line ≡ before_first is_comma line ++ 44 ∷ after_first is_comma line
cut_at line h =
    let within : position_or_len is_comma line < length line = lt_from_ltb _ _ (place_within is_comma line ∙ h) in
    split_at_first is_comma line 0 within
    ∙ ap (λ b. before_first is_comma line ++ b ∷ after_first is_comma line) (comma _ (passes_at_first is_comma line 0 within))
  where
    lt_from_ltb : (m n : ℕ) → ltb m n ≡ true → m < n
    lt_from_ltb m n e = grind (arith, nat_tests)

    comma : (b : ℕ) → is_comma b ≡ true → b ≡ 44
    comma b e = grind (arith, nat_tests)

pub count-cut : (line : List ℕ) → list_any is_comma line ≡ true → count_by is_comma line ≡ count_by is_comma (after_first is_comma line) + 1
count-cut line h =
    ap (count_by is_comma) (cut_at line h)
    ∙ sum_by-append (λ y. cond (is_comma y) 1 0) (before_first is_comma line) (44 ∷ after_first is_comma line)
    ∙ (λ i. count-none is_comma (before_first is_comma line) (before-none is_comma line) i + count-cons is_comma 44 (after_first is_comma line) i)
    ∙ omega arith

arrows-append : (xs ys : List ℕ) → arrows (xs ++ 44 ∷ ys) ≡ arrows xs + arrows ys
arrows-append [] ys = comma_skip ys ∙ omega arith
arrows-append (a ∷ []) ys = ap (λ t. if t then arrows (44 ∷ ys) + 1 else arrows (44 ∷ ys)) (arrow_not_here a 44 ys (λ _ f. omega arith)) ∙ comma_skip ys ∙ omega arith
arrows-append (a ∷ b ∷ bs) ys = by (eqb a 45 && eqb b 62) _ _ (arrows ys) (arrows-append (b ∷ bs) ys)
  where
    by : (t : Bool) (m n k : ℕ) → m ≡ n + k → (if t then m + 1 else m) ≡ (if t then n + 1 else n) + k
    by true m n k e = omega arith
    by false m n k e = e

pub arrows-cut : (line : List ℕ) → list_any is_comma line ≡ true → arrows line ≡ arrows (before_first is_comma line) + arrows (after_first is_comma line)
arrows-cut line h = ap arrows (cut_at line h) ∙ arrows-append (before_first is_comma line) (after_first is_comma line)

shape_by : (any : Bool) (n x y : ℕ) → (any ≡ false → n ≡ 0) → (any ≡ true → 1 ≤ n) → (eqb (n + 1) 1 && eqb (x + y) 1 && eqb y 1) ≡ (not any && not (ltb 0 x) && eqb y 1)
shape_by true n x y none some = let h = some refl in grind (arith, nat_tests)
shape_by false n x y none some = let h = none refl in grind (arith, nat_tests)

-- the shape of a line, told by the parts around its first comma
pub is_shaped-cut : (line : List ℕ) → list_any is_comma line ≡ true → is_shaped line ≡ is_cut_shaped (before_first is_comma line) (after_first is_comma line)
is_shaped-cut line h =
    let before = before_first is_comma line in
    let after = after_first is_comma line in
    ap (λ t. if t then (eqb (count_by is_comma line) 1 && eqb (arrows line) 1 && eqb (arrows after) 1) else eqb (arrows line) 0) h
    ∙ (λ i. eqb (count-cut line h i) 1 && eqb (arrows-cut line h i) 1 && eqb (arrows after) 1)
    ∙ shape_by (list_any is_comma after) (count_by is_comma after) (arrows before) (arrows after) (count-none is_comma after) (λ e. omega (arith, count-cut after e))

pub entry-cut : (line : List ℕ) → list_any is_comma line ≡ true → transition_entry (before_first is_comma line) (after_first is_comma line) ≡ content_of line
entry-cut line h = ap (λ t. if t then transition_entry (before_first is_comma line) (after_first is_comma line) else StateLine line) (sym h)

-- what is known of a line cut at its first comma, told of the line
pub shaped-cut : (line label rest : List ℕ) (r : Option Said) → list_any is_comma line ≡ true → label ≡ before_first is_comma line → rest ≡ after_first is_comma line
    → MatchOption r (is_cut_shaped label rest ≡ false) (λ said. (is_cut_shaped label rest ≡ true) × (entry_seen said ≡ transition_entry label rest))
    → MatchOption r (is_shaped line ≡ false) (λ said. (is_shaped line ≡ true) × (entry_seen said ≡ content_of line))
shaped-cut line label rest None h l m k = is_shaped-cut line h ∙ (λ i. is_cut_shaped (sym l i) (sym m i)) ∙ k
shaped-cut line label rest (Some said) h l m k =
    (is_shaped-cut line h ∙ (λ i. is_cut_shaped (sym l i) (sym m i)) ∙ k.0, k.1 ∙ (λ i. transition_entry (l i) (m i)) ∙ entry-cut line h)
