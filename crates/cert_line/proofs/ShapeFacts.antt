use Rattle.std.proofs.Common.{◌≡◌, ℕ, suc, ◌≤◌, ◌+◌, ◌==◌, List, [], ◌∷◌, length, zip, drop, Bool, true, false, not, ◌||◌, cond, nat_lt, nat_le, decimal, Option, Some, None, Ok, Err, bytes_eq, refl, sym, ap, ◌∙◌, arith, inl, inr, ◌⊎◌, ne_eqb, le-leb, leb-true, lt-ltb, add-one}
use Rattle.std.specs.List.{list_all}
use Rattle.std.proofs.lemmas.Slice.Eq.{bytes_eq-Decides}
use Rattle.std.proofs.lemmas.Bool.{and_parts, and_from, or_right, or_from, cond-true, cond-false}
use Rattle.cert_value.specs.declared.keywords.Keyword.{Keyword}
use Rattle.cert_value.specs.declared.keywords.Keyword.TheVariants as keyword
use Rattle.cert_line.specs.declared.shapes.Place.{Place}
use Rattle.cert_line.specs.declared.shapes.Place.TheVariants.{Word, Number}
use Rattle.cert_line.specs.declared.shapes.Tail.{Tail}
use Rattle.cert_line.specs.declared.shapes.Tail.TheVariants as tail
use Rattle.cert_line.specs.declared.faults.TextKind.{TextKind}
use Rattle.cert_line.specs.declared.faults.TextKind.TheVariants as kind
use Rattle.cert_value.specs.Text.{Line, spelled, numbers}
use Rattle.cert_value.specs.WellFormed.{is_short, are_short}
use Rattle.cert_line.specs.Shapes.{is_number, value, has_empty, has_number, fits, is_closed, has_numbers, may_follow, has_count, line_fault, value_at, values_from}
use Rattle.cert_line.specs.Lines.{Said, unless, as_shape, in_order}
use Rattle.cert_line.proofs.ShapeLemmas.{front_is}
use Rattle.cert_value.proofs.SplitLemmas.{drop_one}
use Rattle.cert_line.proofs.NumberFacts.{numeral, decimal_value, value_short, number_decimal, numbers_values, values_short}

-- The line that these places say, with these numbers in them and these tokens after them.
abbrev pub filled : List Place → List ℕ → Line → Line
filled [] heads rest = rest
filled (Word w ∷ places) heads rest = spelled w ∷ filled places heads rest
filled (Number ∷ places) [] rest = [] ∷ filled places [] rest
filled (Number ∷ places) (n ∷ ns) rest = decimal n ∷ filled places ns rest

-- A short number for each number's place.
abbrev pub Heads : List Place → List ℕ → Type 0
Heads [] [] = Unit {0}
Heads [] (n ∷ ns) = ⊥
Heads (Word w ∷ places) ns = Heads places ns
Heads (Number ∷ places) [] = ⊥
Heads (Number ∷ places) (n ∷ ns) = (is_short n ≡ true) × Heads places ns

-- The numbers in the numbers' places, the first place being that of the token i.
abbrev pub heads_at : ℕ → List Place → Line → List ℕ
heads_at i [] tokens = []
heads_at i (Word w ∷ places) tokens = heads_at (i + 1) places tokens
heads_at i (Number ∷ places) tokens = value_at tokens i ∷ heads_at (i + 1) places tokens

spelled_some : (w : Keyword) → (length (spelled w) == 0) ≡ false
unfolding spelled
spelled_some (keyword.Backward) = refl
spelled_some (keyword.Base) = refl
spelled_some (keyword.Classes) = refl
spelled_some (keyword.Cover) = refl
spelled_some (keyword.Cut) = refl
spelled_some (keyword.Delayed) = refl
spelled_some (keyword.Elements) = refl
spelled_some (keyword.End) = refl
spelled_some (keyword.Forward) = refl
spelled_some (keyword.Gone) = refl
spelled_some (keyword.Limit) = refl
spelled_some (keyword.Live) = refl
spelled_some (keyword.Log1) = refl
spelled_some (keyword.Log2) = refl
spelled_some (keyword.Look) = refl
spelled_some (keyword.Loop) = refl
spelled_some (keyword.Merge) = refl
spelled_some (keyword.Next) = refl
spelled_some (keyword.Prefix) = refl
spelled_some (keyword.Rel) = refl
spelled_some (keyword.Row) = refl
spelled_some (keyword.Sizes) = refl
spelled_some (keyword.Start) = refl
spelled_some (keyword.Step) = refl
spelled_some (keyword.Trim) = refl
spelled_some (keyword.Under) = refl
spelled_some (keyword.Buchi) = refl
spelled_some (keyword.Finite) = refl
spelled_some (keyword.List) = refl
spelled_some (keyword.No) = refl
spelled_some (keyword.One) = refl
spelled_some (keyword.RabitCert) = refl
spelled_some (keyword.RabitCross) = refl
spelled_some (keyword.Two) = refl
spelled_some (keyword.Yes) = refl
spelled_some (keyword.Word) = refl
spelled_some (keyword.Accepting) = refl
spelled_some (keyword.Closed) = refl
spelled_some (keyword.Letters) = refl
spelled_some (keyword.Map) = refl
spelled_some (keyword.Product) = refl
spelled_some (keyword.RabitProof) = refl

decimal_some : (n : ℕ) → is_short n ≡ true → (length (decimal n) == 0) ≡ false
decimal_some n e =
    let some = (numeral (decimal n) (number_decimal n e)).some in
    ne_eqb (length (decimal n)) 0 (λ h. omega arith)

same_bytes : (xs : List ℕ) → bytes_eq xs xs ≡ true
same_bytes xs = (bytes_eq-Decides xs xs).1 refl

none_empty : (ts : Line) → list_all is_number ts ≡ true → has_empty ts ≡ false
none_empty [] e = refl
none_empty (t ∷ ts) e =
    let p = and_parts (is_number t) (list_all is_number ts) e in
    let some = (numeral t p.0).some in
    or_from (length t == 0) (has_empty ts) (ne_eqb (length t) 0 (λ h. omega arith)) (none_empty ts p.1)

fw_empty : (ps : List Place) (hs : List ℕ) (rest : Line) → Heads ps hs → has_empty rest ≡ false → has_empty (filled ps hs rest) ≡ false
fw_empty [] hs rest h e = e
fw_empty (Word w ∷ ps) hs rest h e =
    or_from (length (spelled w) == 0) (has_empty (filled ps hs rest)) (spelled_some w) (fw_empty ps hs rest h e)
fw_empty (Number ∷ ps) [] rest h e = absurd h
fw_empty (Number ∷ ps) (n ∷ ns) rest h e =
    or_from (length (decimal n) == 0) (has_empty (filled ps ns rest)) (decimal_some n h.0) (fw_empty ps ns rest h.1 e)

pub fw_fits : (ps : List Place) (hs : List ℕ) (rest : Line) → Heads ps hs → fits ps (filled ps hs rest) ≡ true
fw_fits [] hs rest h = refl
fw_fits (Word w ∷ ps) hs rest h =
    and_from (bytes_eq (spelled w) (spelled w)) (fits ps (filled ps hs rest)) (same_bytes (spelled w)) (fw_fits ps hs rest h)
fw_fits (Number ∷ ps) [] rest h = absurd h
fw_fits (Number ∷ ps) (n ∷ ns) rest h = fw_fits ps ns rest h.1

fw_heads : (ps : List Place) (hs : List ℕ) (rest : Line) → Heads ps hs
    → list_all (λ x. has_number x.0 x.1) (zip ps (filled ps hs rest)) ≡ true
fw_heads [] hs rest h = refl
fw_heads (Word w ∷ ps) hs rest h = fw_heads ps hs rest h
fw_heads (Number ∷ ps) [] rest h = absurd h
fw_heads (Number ∷ ps) (n ∷ ns) rest h =
    and_from (is_number (decimal n)) _ (number_decimal n h.0) (fw_heads ps ns rest h.1)

pub fw_rest : (ps : List Place) (hs : List ℕ) (rest : Line) → Heads ps hs → drop (length ps) (filled ps hs rest) ≡ rest
fw_rest [] hs rest h = refl
fw_rest (Word w ∷ ps) hs rest h = fw_rest ps hs rest h
fw_rest (Number ∷ ps) [] rest h = absurd h
fw_rest (Number ∷ ps) (n ∷ ns) rest h = fw_rest ps ns rest h.1

fw_len : (ps : List Place) (hs : List ℕ) (rest : Line) → Heads ps hs → length ps ≤ length (filled ps hs rest)
fw_len [] hs rest h = omega arith
fw_len (Word w ∷ ps) hs rest h = let k = fw_len ps hs rest h in omega arith
fw_len (Number ∷ ps) [] rest h = absurd h
fw_len (Number ∷ ps) (n ∷ ns) rest h = let k = fw_len ps ns rest h.1 in omega arith

free : (a b c d : Bool) → a ≡ false → b ≡ true → c ≡ true → d ≡ true
    → (cond a (Some kind.Shape) (cond (not b) (Some kind.Shape) (cond (not c) (Some kind.Number) (cond (not d) (Some kind.Shape) None)))) ≡ None
free a true true true e f g h = cond-false a (Some kind.Shape) None e
free a false c d e f g h = absurd (cc)
free a true false d e f g h = absurd (cc)
free a true true false e f g h = absurd (cc)

-- a filled line has no fault
pub line_none : (ps : List Place) (hs : List ℕ) (rest : Line) (t : Tail) → Heads ps hs → list_all is_number rest ≡ true → may_follow t rest ≡ true
    → line_fault ps t (filled ps hs rest) ≡ None
line_none ps hs rest t h all m =
    let ts = filled ps hs rest in
    let left = fw_rest ps hs rest h in
    free (has_empty ts) (fits ps ts) (has_numbers ps t ts) (has_count ps t ts)
    (fw_empty ps hs rest h (none_empty rest all))
    (fw_fits ps hs rest h)
    (and_from _ _ (fw_heads ps hs rest h) (or_right (is_closed t) _ (ap (λ xs. list_all is_number xs) left ∙ all)))
    (and_from _ _ (le-leb (length ps) (length ts) (fw_len ps hs rest h)) (ap (λ xs. may_follow t xs) left ∙ m))

-- what it says
pub as_fw : {A : Type 0} (ps : List Place) (hs : List ℕ) (rest : Line) (t : Tail) (told : Line → Said A)
    → Heads ps hs → list_all is_number rest ≡ true → may_follow t rest ≡ true
    → as_shape ps t told (filled ps hs rest) ≡ told (filled ps hs rest)
as_fw ps hs rest t told h all m = ap (λ o. unless o (told (filled ps hs rest))) (line_none ps hs rest t h all m)

-- the other way round
pub unless_inv : {A : Type 0} (o : Option TextKind) (r : Said A) (a : A) → unless o r ≡ Ok a → (o ≡ None) × (r ≡ Ok a)
unless_inv (Some fault) r a e = absurd (cc)
unless_inv None r a e = (refl, e)

parts_of : (a b c d : Bool)
    → (cond a (Some kind.Shape) (cond (not b) (Some kind.Shape) (cond (not c) (Some kind.Number) (cond (not d) (Some kind.Shape) None)))) ≡ None
    → (b ≡ true) × (c ≡ true) × (d ≡ true)
parts_of true b c d e = absurd (cc)
parts_of false false c d e = absurd (cc)
parts_of false true false d e = absurd (cc)
parts_of false true true false e = absurd (cc)
parts_of false true true true e = (refl, refl, refl)

next_left : (i : ℕ) (all : Line) (t : List ℕ) (ts : Line) → drop i all ≡ t ∷ ts → drop (i + 1) all ≡ ts
next_left i all t ts e = ap (λ k. drop k all) (add-one i) ∙ sym (drop_one i all) ∙ ap (λ xs. drop 1 xs) e

bw_filled : (ps : List Place) (i : ℕ) (all ts : Line) → drop i all ≡ ts → fits ps ts ≡ true
    → list_all (λ x. has_number x.0 x.1) (zip ps ts) ≡ true → length ps ≤ length ts
    → (ts ≡ filled ps (heads_at i ps all) (drop (length ps) ts)) × Heads ps (heads_at i ps all)
bw_filled [] i all ts e f g k = (refl, tt)
bw_filled (Word w ∷ ps) i all [] e f g k = absurd (omega arith)
bw_filled (Number ∷ ps) i all [] e f g k = absurd (omega arith)
bw_filled (Word w ∷ ps) i all (t ∷ ts) e f g k =
    let p = and_parts (bytes_eq t (spelled w)) (fits ps ts) f in
    let same : t ≡ spelled w = (bytes_eq-Decides t (spelled w)).0 p.0 in
    let r = bw_filled ps (i + 1) all ts (next_left i all t ts e) p.1 g (omega arith) in
    (ap (λ x. x ∷ ts) same ∙ ap (λ xs. spelled w ∷ xs) r.0, r.1)
bw_filled (Number ∷ ps) i all (t ∷ ts) e f g k =
    let p = and_parts (is_number t) _ g in
    let r = bw_filled ps (i + 1) all ts (next_left i all t ts e) f p.1 (omega arith) in
    let at : value_at all i ≡ value t = ap value (front_is all i t [] ts e) in (
      ap (λ x. x ∷ ts) (sym (decimal_value t p.0) ∙ ap decimal (sym at)) ∙ ap (λ xs. decimal (value_at all i) ∷ xs) r.0,
      (ap is_short at ∙ value_short t p.0, r.1),
    )

nothing_left : (ts : Line) → may_follow tail.Nothing ts ≡ true → ts ≡ []
nothing_left [] e = refl
nothing_left (t ∷ ts) e = absurd (some_not (length ts) e) where
  some_not : (n : ℕ) → not (nat_lt 0 (suc n)) ≡ true → ⊥
  some_not n h = let f : nat_lt 0 (suc n) ≡ true = lt-ltb 0 (suc n) (omega arith) in cc

rest_numbers : (t : Tail) (ts : Line) → (is_closed t || list_all is_number ts) ≡ true → may_follow t ts ≡ true → list_all is_number ts ≡ true
rest_numbers (tail.Nothing) ts e m = ap (λ xs. list_all is_number xs) (nothing_left ts m)
rest_numbers (tail.Numbers) ts e m = e
rest_numbers (tail.SomeNumbers) ts e m = e
rest_numbers (tail.Pairs k) ts e m = e

-- A line without a fault is filled with its own numbers.
pub record Filled (ps : List Place) (t : Tail) (ts : Line) : Type 0 where
  pub line : ts ≡ filled ps (heads_at 0 ps ts) (numbers (values_from (length ps) ts))
  pub heads : Heads ps (heads_at 0 ps ts)
  pub short : are_short (values_from (length ps) ts) ≡ true
  pub follows : may_follow t (numbers (values_from (length ps) ts)) ≡ true

pub line_back : (ps : List Place) (t : Tail) (ts : Line) → line_fault ps t ts ≡ None → Filled ps t ts
line_back ps t ts e =
    let p = parts_of (has_empty ts) (fits ps ts) (has_numbers ps t ts) (has_count ps t ts) e in
    let n = and_parts (list_all (λ x. has_number x.0 x.1) (zip ps ts)) _ p.1 in
    let c = and_parts (nat_le (length ps) (length ts)) _ p.2 in
    let r = bw_filled ps 0 ts ts refl p.0 n.0 (leb-true (length ps) (length ts) c.0) in
    let left = drop (length ps) ts in
    let all : list_all is_number left ≡ true = rest_numbers t left n.1 c.1 in
    let same : left ≡ numbers (values_from (length ps) ts) = sym (numbers_values left all) in
    record {
      line = r.0 ∙ ap (λ xs. filled ps (heads_at 0 ps ts) xs) same;
      heads = r.1;
      short = values_short left all;
      follows = ap (λ xs. may_follow t xs) (sym same) ∙ c.1;
    }

pub as_bw : {A : Type 0} (ps : List Place) (t : Tail) (told : Line → Said A) (ts : Line) (a : A)
    → as_shape ps t told ts ≡ Ok a → Filled ps t ts × (told ts ≡ Ok a)
as_bw ps t told ts a e =
    let p = unless_inv (line_fault ps t ts) (told ts) a e in
    (line_back ps t ts p.0, p.1)

-- with nothing after the places
pub closed_none : (ps : List Place) (ts : Line) → Filled ps tail.Nothing ts → ts ≡ filled ps (heads_at 0 ps ts) []
closed_none ps ts f = f.line ∙ ap (λ xs. filled ps (heads_at 0 ps ts) xs) (nothing_left (numbers (values_from (length ps) ts)) f.follows)

pub order_fw : {A : Type 0} (b : Bool) (a : A) → b ≡ true → in_order b a ≡ Ok a
order_fw b a e = cond-true b (Ok a) (Err kind.Order) e

pub order_bw : {A : Type 0} (b : Bool) (x a : A) → in_order b x ≡ Ok a → (b ≡ true) × (x ≡ a)
order_bw true x a e = (refl, cc)
order_bw false x a e = absurd (cc)

pub either_bw : {A : Type 0} (b : Bool) (x y : Said A) (a : A) → cond b x y ≡ Ok a → (x ≡ Ok a) ⊎ (y ≡ Ok a)
either_bw true x y a e = inl e
either_bw false x y a e = inr e

pub ok_same : {A : Type 0} (x a : A) → (let s : Said A = Ok x in s) ≡ Ok a → x ≡ a
ok_same x a e = cc
