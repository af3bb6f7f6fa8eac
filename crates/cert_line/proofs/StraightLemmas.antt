-- Lines that are the text of a value.
use Rattle.std.proofs.Common.{◌≡◌, ℕ, List, [], ◌∷◌, ◌++◌, true, false, Bool, decimal, Option, Some, None, Ok, IfSome, ◌==◌, eq-eqb, refl, sym, ap, ◌∙◌, subst, append-nil}
use Rattle.std.specs.Str.Parse.{digits_value}
use Rattle.std.proofs.lemmas.Bool.{and_from}
use Rattle.auto_core.specs.declared.parts.Mode.{Mode}
use Rattle.auto_core.specs.declared.parts.Origin.{Origin}
use Rattle.cert_value.specs.declared.keywords.Keyword.TheVariants as keyword
use Rattle.cert_value.specs.declared.types.Mark.{Mark}
use Rattle.cert_value.specs.Text.{Line, spelled, numbers, origin_line, mark_tokens}
use Rattle.cert_value.specs.WellFormed.{is_short, are_short, is_mark, is_origin}
use Rattle.cert_line.specs.Shapes.{is_number, number_of, value}
use Rattle.cert_line.proofs.NumberFacts.{decimal_value, value_short, value_is}
use Rattle.cert_line.specs.Lines.{element_in, origin_in, step_in}
use Rattle.cert_line.proofs.RunFacts.{short_append}
use Rattle.cert_line.proofs.LineFacts.{step_fw}
use Rattle.cert_line.proofs.OriginFacts.{element_fw, origin_fw}

-- a token that writes a number is its text
pub number_is : (t : List ℕ) (n : ℕ) → number_of t ≡ Some n → (t ≡ decimal n) × (is_short n ≡ true)
number_is t n e = told (is_number t) refl
  where
    told : (b : Bool) → is_number t ≡ b → (t ≡ decimal n) × (is_short n ≡ true)
    told true is =
        let f : Some (digits_value 10 t) ≡ Some n = (let g = rw is at e in g) in
        let same : digits_value 10 t ≡ n = cc in
        let v : value t ≡ n = value_is t is ∙ same in
        (sym (decimal_value t is) ∙ ap decimal v, ap is_short (sym v) ∙ value_short t is)
    told false is = absurd (let f = rw is at e in cc)

-- the number of the first token
pub next_is : (o : Option ℕ) (t : List ℕ) (ts rest : Line) → o ≡ number_of t → ts ≡ t ∷ rest
    → IfSome o (λ n. (ts ≡ decimal n ∷ rest) × (is_short n ≡ true))
next_is None t ts rest e f = tt
next_is (Some n) t ts rest e f = let p = number_is t n (sym e) in (f ∙ ap (λ x. x ∷ rest) p.0, p.1)

-- one number more
numbers_end : (ns : List ℕ) (n : ℕ) (rest : Line) → numbers (ns ++ n ∷ []) ++ rest ≡ numbers ns ++ decimal n ∷ rest
numbers_end [] n rest = refl
numbers_end (m ∷ ns) n rest = ap (λ xs. decimal m ∷ xs) (numbers_end ns n rest)

-- The numbers are those of the tokens before these.
abbrev pub AreBefore : List ℕ → Line → Line → Type 0
AreBefore ns left all = (numbers ns ++ left ≡ all) × (are_short ns ≡ true)

pub before_more : (ns more : List ℕ) (n : ℕ) (t : List ℕ) (left rest all : Line) → AreBefore ns left all → left ≡ t ∷ rest → number_of t ≡ Some n
    → more ≡ ns ++ n ∷ [] → AreBefore more rest all
before_more ns more n t left rest all are at is new =
    let p = number_is t n is in
    let P : List ℕ → Type 0 = λ ms. AreBefore ms rest all in
    subst P (sym new) (
      numbers_end ns n rest ∙ ap (λ x. numbers ns ++ x ∷ rest) (sym p.0) ∙ ap (λ xs. numbers ns ++ xs) (sym at) ∙ are.0,
      short_append ns (n ∷ []) are.1 (and_from (is_short n) true p.1 refl),
    )

pub before_all : (ns : List ℕ) (left all : Line) → AreBefore ns left all → left ≡ [] → (all ≡ numbers ns) × (are_short ns ≡ true)
before_all ns left all are none = (sym are.0 ∙ ap (λ xs. numbers ns ++ xs) none ∙ append-nil (numbers ns), are.1)

-- what the tokens of an origin, an element and a step line say
pub origin_straight : (m : Mode) (o : Option Origin) (ts all : Line) → all ≡ ts
    → IfSome o (λ from. (all ≡ origin_line from) × (is_origin m from ≡ true)) → IfSome o (λ from. origin_in m ts ≡ Ok from)
origin_straight m None ts all is h = tt
origin_straight m (Some from) ts all is h = ap (λ xs. origin_in m xs) (sym is ∙ h.0) ∙ origin_fw m from h.1

pub element_straight : (m : Mode) (mark : Mark) (from : Origin) (ts left : Line) → ts ≡ mark_tokens mark ++ left → is_mark mark ≡ true
    → left ≡ origin_line from → is_origin m from ≡ true → element_in m ts ≡ Ok (record { mark = mark; origin = from })
element_straight m mark from ts left at marked is right =
    ap (λ xs. element_in m xs) (at ∙ ap (λ xs. mark_tokens mark ++ xs) is)
    ∙ element_fw m (record { mark = mark; origin = from }) (and_from (is_mark mark) (is_origin m from) marked right)

pub told_numbers : (o : Option (List ℕ)) (ns : List ℕ) (all : Line) → o ≡ Some ns
    → IfSome o (λ ms. (all ≡ numbers ms) × (are_short ms ≡ true)) → (all ≡ numbers ns) × (are_short ns ≡ true)
told_numbers o ns all is h =
    let P : Option (List ℕ) → Type 0 = λ p. IfSome p (λ ms. (all ≡ numbers ms) × (are_short ms ≡ true)) in
    subst P is h

pub step_straight : (n k : ℕ) (ns : List ℕ) (ts left rest : Line) → ts ≡ spelled keyword.Step ∷ left → left ≡ decimal k ∷ rest → is_short k ≡ true
    → rest ≡ numbers ns → are_short ns ≡ true → k ≡ n → step_in n ts ≡ Ok (record { element = k; by = ns })
step_straight n k ns ts left rest at first short is shorts same =
    ap (λ xs. step_in n xs) (at ∙ ap (λ xs. spelled keyword.Step ∷ xs) (first ∙ ap (λ xs. decimal k ∷ xs) is))
    ∙ step_fw n (record { element = k; by = ns }) (and_from (is_short k) _ short (and_from (are_short ns) (k == n) shorts (eq-eqb k n same)))
