use Rattle.std.proofs.Common.{◌≡◌, ℕ, zero, suc, ◌<◌, ◌≤◌, ◌+◌, ◌/◌, ◌%◌, ◌==◌, List, [], ◌∷◌, ◌++◌, map, Bool, true, false, not, nat_lt, decimal, refl, sym, ap, ◌∙◌, arith, ne_eqb, lt-ltb, ltb-true, append_assoc, append-nil, mod-lt, lit<}
use Rattle.std.specs.List.{list_all, slice_split, onto_first, join_with_byte}
use Rattle.std.specs.Fmt.{digits, digits_onto, digit_glyph}
use Rattle.std.proofs.lemmas.List.Splits.{slice_split-cons_yes, slice_split-cons_no, join_with_byte-slice_split}
use Rattle.std.proofs.lemmas.List.Folds.{list_all-append}
use Rattle.std.proofs.lemmas.Bool.{and_parts, and_from, not-true, cond_both}
use Rattle.cert_value.specs.declared.keywords.Keyword.{Keyword}
use Rattle.cert_value.specs.declared.keywords.Keyword.TheVariants as keyword
use Rattle.cert_value.specs.Text.{Line, spelled, line_text, text_of, numbers}
use Rattle.cert_value.specs.Tokens.{tokens_of}
use Rattle.cert_text.specs.Grammar.{lines_of}

-- A byte past the space.
abbrev pub is_plain : ℕ → Bool
is_plain b = nat_lt 32 b

abbrev pub plain : List ℕ → Bool
plain t = list_all is_plain t

-- A line of tokens of plain bytes; it has a token.
abbrev pub PlainLine : Line → Type 0
PlainLine [] = ⊥
PlainLine (t ∷ ts) = list_all plain (t ∷ ts) ≡ true

abbrev pub PlainLines : List Line → Type 0
PlainLines [] = Unit {0}
PlainLines (l ∷ ls) = PlainLine l × PlainLines ls

pub spelled_plain : (w : Keyword) → plain (spelled w) ≡ true
unfolding spelled
spelled_plain (keyword.Backward) = refl
spelled_plain (keyword.Base) = refl
spelled_plain (keyword.Classes) = refl
spelled_plain (keyword.Cover) = refl
spelled_plain (keyword.Cut) = refl
spelled_plain (keyword.Delayed) = refl
spelled_plain (keyword.Elements) = refl
spelled_plain (keyword.End) = refl
spelled_plain (keyword.Forward) = refl
spelled_plain (keyword.Gone) = refl
spelled_plain (keyword.Limit) = refl
spelled_plain (keyword.Live) = refl
spelled_plain (keyword.Log1) = refl
spelled_plain (keyword.Log2) = refl
spelled_plain (keyword.Look) = refl
spelled_plain (keyword.Loop) = refl
spelled_plain (keyword.Merge) = refl
spelled_plain (keyword.Next) = refl
spelled_plain (keyword.Prefix) = refl
spelled_plain (keyword.Rel) = refl
spelled_plain (keyword.Row) = refl
spelled_plain (keyword.Sizes) = refl
spelled_plain (keyword.Start) = refl
spelled_plain (keyword.Step) = refl
spelled_plain (keyword.Trim) = refl
spelled_plain (keyword.Under) = refl
spelled_plain (keyword.Buchi) = refl
spelled_plain (keyword.Finite) = refl
spelled_plain (keyword.List) = refl
spelled_plain (keyword.No) = refl
spelled_plain (keyword.One) = refl
spelled_plain (keyword.RabitCert) = refl
spelled_plain (keyword.RabitCross) = refl
spelled_plain (keyword.Two) = refl
spelled_plain (keyword.Yes) = refl
spelled_plain (keyword.Word) = refl
spelled_plain (keyword.Accepting) = refl
spelled_plain (keyword.Closed) = refl
spelled_plain (keyword.Letters) = refl
spelled_plain (keyword.Map) = refl
spelled_plain (keyword.Product) = refl
spelled_plain (keyword.RabitProof) = refl

digit_plain : (d : ℕ) → d < 10 → is_plain (digit_glyph false d) ≡ true
digit_plain d h =
    cond_both (nat_lt d 10) (48 + d) (87 + d) (λ x. is_plain x ≡ true) (λ e. lt-ltb 32 (48 + d) (omega arith)) (λ e. lt-ltb 32 (87 + d) (omega arith))

onto_plain : (k n : ℕ) (acc : List ℕ) → plain acc ≡ true → plain (digits_onto k 10 false n acc) ≡ true
onto_plain zero n acc e = e
onto_plain (suc k) n acc e =
    let g = digit_glyph false (n % 10) in
    let more : plain (g ∷ acc) ≡ true = and_from (is_plain g) (plain acc) (digit_plain (n % 10) (mod-lt n (lit< tt))) e in
    cond_both (n / 10 == 0) (g ∷ acc) (digits_onto k 10 false (n / 10) (g ∷ acc)) (λ xs. plain xs ≡ true)
    (λ _. more) (λ _. onto_plain k (n / 10) (g ∷ acc) more)

pub decimal_plain : (n : ℕ) → plain (decimal n) ≡ true
unfolding digits
decimal_plain n = onto_plain 64 n [] refl

pub numbers_plain : (ns : List ℕ) → list_all plain (numbers ns) ≡ true
numbers_plain [] = refl
numbers_plain (n ∷ ns) = and_from (plain (decimal n)) _ (decimal_plain n) (numbers_plain ns)

-- No byte of the list is one at which it is cut.
abbrev pub clean : (ℕ → Bool) → List ℕ → Bool
clean p xs = list_all (λ x. not (p x)) xs

pub split_clean : (p : ℕ → Bool) (xs : List ℕ) (y : ℕ) (ys : List ℕ) → clean p xs ≡ true → p y ≡ true
    → slice_split p (xs ++ y ∷ ys) ≡ xs ∷ slice_split p ys
split_clean p [] y ys e h = slice_split-cons_yes p y ys h
split_clean p (x ∷ xs) y ys e h =
    let a = and_parts (not (p x)) (clean p xs) e in
    slice_split-cons_no p x (xs ++ y ∷ ys) (not-true (p x) a.0)
    ∙ ap (λ parts. onto_first x parts) (split_clean p xs y ys a.1 h)

pub split_last : (p : ℕ → Bool) (xs : List ℕ) → clean p xs ≡ true → slice_split p xs ≡ xs ∷ []
split_last p [] e = refl
split_last p (x ∷ xs) e =
    let a = and_parts (not (p x)) (clean p xs) e in
    slice_split-cons_no p x xs (not-true (p x) a.0) ∙ ap (λ parts. onto_first x parts) (split_last p xs a.1)

-- plain bytes are neither spaces nor LF
not_this : (k b : ℕ) → k ≤ 32 → is_plain b ≡ true → not (b == k) ≡ true
not_this k b le e = let lt = ltb-true 32 b e in ap not (ne_eqb b k (λ h. omega arith))

pub plain_clean : (k : ℕ) (t : List ℕ) → k ≤ 32 → plain t ≡ true → clean (λ b. b == k) t ≡ true
plain_clean k [] le e = refl
plain_clean k (b ∷ bs) le e =
    let a = and_parts (is_plain b) (plain bs) e in
    and_from (not (b == k)) _ (not_this k b le a.0) (plain_clean k bs le a.1)

pub tokens_join : (t : List ℕ) (ts : Line) → list_all plain (t ∷ ts) ≡ true → tokens_of (join_with_byte 32 (t ∷ ts)) ≡ t ∷ ts
tokens_join t [] e =
    let a = and_parts (plain t) true e in
    split_last (λ b. b == 32) t (plain_clean 32 t (omega arith) a.0)
tokens_join t (u ∷ us) e =
    let a = and_parts (plain t) _ e in
    split_clean (λ b. b == 32) t 32 (join_with_byte 32 (u ∷ us)) (plain_clean 32 t (omega arith) a.0) refl
    ∙ ap (λ xs. t ∷ xs) (tokens_join u us a.1)

join_clean : (t : List ℕ) (ts : Line) → list_all plain (t ∷ ts) ≡ true → clean (λ b. b == 10) (join_with_byte 32 (t ∷ ts)) ≡ true
join_clean t [] e =
    let a = and_parts (plain t) true e in
    plain_clean 10 t (omega arith) a.0
join_clean t (u ∷ us) e =
    let a = and_parts (plain t) _ e in
    list_all-append (λ x. not (x == 10)) t (32 ∷ join_with_byte 32 (u ∷ us))
    ∙ and_from (clean (λ b. b == 10) t) _ (plain_clean 10 t (omega arith) a.0) (join_clean u us a.1)

-- the text of a line is its tokens joined, and LF
pub line_join : (l : Line) → line_text l ≡ join_with_byte 32 l ++ 10 ∷ []
line_join [] = refl
line_join (t ∷ []) = refl
line_join (t ∷ u ∷ us) =
    ap (λ x. t ++ 32 ∷ x) (line_join (u ∷ us)) ∙ sym (append_assoc t (32 ∷ join_with_byte 32 (u ∷ us)) (10 ∷ []))

-- the lines of a text and more are those that it was made of, and those of the rest
pub lines_text : (ls : List Line) (more : List ℕ) → PlainLines ls → lines_of (text_of ls ++ more) ≡ ls ++ lines_of more
lines_text [] more h = refl
lines_text ([] ∷ ls) more h = absurd h.0
lines_text ((t ∷ ts) ∷ ls) more h =
    let j = join_with_byte 32 (t ∷ ts) in
    let rest = text_of ls ++ more in
    let e : text_of ((t ∷ ts) ∷ ls) ++ more ≡ j ++ 10 ∷ rest =
    append_assoc (line_text (t ∷ ts)) (text_of ls) more
    ∙ ap (λ x. x ++ rest) (line_join (t ∷ ts)) ∙ append_assoc j (10 ∷ []) rest in
    ap lines_of e
    ∙ ap (λ parts. map tokens_of parts) (split_clean (λ b. b == 10) j 10 rest (join_clean t ts h.0) refl)
    ∙ ap (λ x. x ∷ lines_of rest) (tokens_join t ts h.0)
    ∙ ap (λ xs. (t ∷ ts) ∷ xs) (lines_text ls more h.1)

-- Back: pieces joined again.
pub pieces_back : (pieces : List (List ℕ)) → map (λ l. join_with_byte 32 l) (map tokens_of pieces) ≡ pieces
pieces_back [] = refl
pieces_back (p ∷ ps) =
    ap (λ x. x ∷ map (λ l. join_with_byte 32 l) (map tokens_of ps)) (join_with_byte-slice_split 32 p)
    ∙ ap (λ xs. p ∷ xs) (pieces_back ps)

join_lines : (ls : List Line) → join_with_byte 10 (map (λ l. join_with_byte 32 l) (ls ++ (([] ∷ []) ∷ []))) ≡ text_of ls
join_lines [] = refl
join_lines (l ∷ []) = sym (append-nil (line_text l) ∙ line_join l)
join_lines (l ∷ m ∷ ms) =
    ap (λ x. join_with_byte 32 l ++ 10 ∷ x) (join_lines (m ∷ ms))
    ∙ sym (ap (λ x. x ++ text_of (m ∷ ms)) (line_join l) ∙ append_assoc (join_with_byte 32 l) (10 ∷ []) (text_of (m ∷ ms)))

-- bytes with these lines are their text
pub text_back : (bytes : List ℕ) (ls : List Line) → lines_of bytes ≡ ls ++ (([] ∷ []) ∷ []) → bytes ≡ text_of ls
text_back bytes ls e =
    let pieces = slice_split (λ b. b == 10) bytes in
    sym (join_with_byte-slice_split 10 bytes)
    ∙ ap (λ ps. join_with_byte 10 ps) (sym (pieces_back pieces) ∙ ap (λ xs. map (λ l. join_with_byte 32 l) xs) e)
    ∙ join_lines ls
