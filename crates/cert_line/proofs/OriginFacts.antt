use Rattle.std.proofs.Common.{◌≡◌, ℕ, ◌==◌, [], ◌∷◌, ◌++◌, Bool, true, false, ◌&&◌, cond, decimal, Option, Some, None, Ok, is_none, refl, sym, ap, ap₂, ◌∙◌, subst, ⊎_elim, inl, inr, ◌⊎◌, eqb-true}
use Rattle.std.specs.Str.{bytes_eq}
use Rattle.std.proofs.lemmas.Bool.{and_parts, and_from, or_cases}
use Rattle.auto_core.specs.declared.parts.Mode.{Mode}
use Rattle.auto_core.specs.declared.parts.Mode.TheVariants as mode
use Rattle.auto_core.specs.declared.parts.Origin.{Origin}
use Rattle.auto_core.specs.declared.parts.Origin.TheVariants as origin
use Rattle.cert_value.specs.declared.keywords.Keyword.TheVariants as keyword
use Rattle.cert_line.specs.declared.shapes.Place.TheVariants.{Number}
use Rattle.cert_line.specs.declared.shapes.Tail.TheVariants as tail
use Rattle.cert_line.specs.declared.faults.TextKind.{TextKind}
use Rattle.cert_value.specs.declared.types.Form.{Form}
use Rattle.cert_value.specs.declared.types.Form.TheVariants as form
use Rattle.cert_value.specs.declared.types.Element.{Element}
use Rattle.cert_value.specs.declared.types.Mark.{Mark}
use Rattle.cert_value.specs.declared.types.Mark.TheVariants as mark
use Rattle.cert_line.specs.declared.lines.Heading.{Heading}
use Rattle.cert_value.specs.Text.{Line, spelled, origin_line, mark_tokens, first_line}
use Rattle.cert_value.specs.WellFormed.{is_short, is_mark, is_origin, is_element, is_version}
use Rattle.cert_line.specs.Shapes.{value, fits, line_fault, value_at}
use Rattle.cert_line.specs.Lines.{Said, start_places, base_places, next_places, next_origin_in, origin_in, live_base, live_start, live_next, under_base, under_start, under_next, live, under, next_element_in, element_in, heading_places, is_heading, heading, or_else, if_heading, mode_heading_in, version_heading_in, heading_said, heading_in}
use Rattle.cert_line.proofs.NumberFacts.{value_decimal}
use Rattle.cert_line.proofs.ShapeFacts.{fw_fits, as_fw, line_back, as_bw, closed_none, either_bw}
use Rattle.cert_line.proofs.HeadFacts.{off, off_second, off_third, skip, choose}

base_next : bytes_eq (spelled keyword.Next) (spelled keyword.Base) ≡ false
unfolding spelled
base_next = refl

start_next : bytes_eq (spelled keyword.Next) (spelled keyword.Start) ≡ false
unfolding spelled
start_next = refl

under_live : bytes_eq (spelled keyword.Live) (spelled keyword.Under) ≡ false
unfolding spelled
under_live = refl

live_under : bytes_eq (spelled keyword.Under) (spelled keyword.Live) ≡ false
unfolding spelled
live_under = refl

finite_buchi : bytes_eq (spelled keyword.Finite) (spelled keyword.Buchi) ≡ false
unfolding spelled
finite_buchi = refl

no_yes : bytes_eq (spelled keyword.No) (spelled keyword.Yes) ≡ false
unfolding spelled
no_yes = refl

list_yes : bytes_eq (spelled keyword.List) (spelled keyword.Yes) ≡ false
unfolding spelled
list_yes = refl

list_no : bytes_eq (spelled keyword.List) (spelled keyword.No) ≡ false
unfolding spelled
list_no = refl

-- Elements of a list.
abbrev pub OriginBack : Mode → Line → Origin → Type 0
OriginBack m ts from = (is_origin m from ≡ true) × (ts ≡ origin_line from)

next_fw : (p t : ℕ) → (is_short p && is_short t) ≡ true → next_origin_in (origin_line (origin.Next p t)) ≡ Ok (origin.Next p t)
next_fw p t e =
    let a = and_parts (is_short p) (is_short t) e in
    let f : ℕ → ℕ → Said Origin = λ x y. Ok (origin.Next x y) in
    as_fw next_places (p ∷ t ∷ []) [] tail.Nothing (λ tokens. Ok (origin.Next (value_at tokens 1) (value_at tokens 2))) (a.0, (a.1, tt)) refl refl
    ∙ ap₂ f (value_decimal p a.0) (value_decimal t a.1)

pub origin_fw : (m : Mode) (from : Origin) → is_origin m from ≡ true → origin_in m (origin_line from) ≡ Ok from
origin_fw (mode.Buchi) (origin.Start) e = absurd (cc)
origin_fw (mode.Finite) (origin.Base t) e = absurd (cc)
origin_fw (mode.Finite) (origin.Start) e =
    choose (fits start_places (origin_line origin.Start)) _ _ _ (fw_fits start_places [] [] tt)
    (as_fw start_places [] [] tail.Nothing (λ tokens. Ok origin.Start) tt refl refl)
origin_fw (mode.Buchi) (origin.Base t) e =
    let f : ℕ → Said Origin = λ x. Ok (origin.Base x) in
    choose (fits base_places (origin_line (origin.Base t))) _ _ _ (fw_fits base_places (t ∷ []) [] (e, tt))
    (as_fw base_places (t ∷ []) [] tail.Nothing (λ tokens. Ok (origin.Base (value_at tokens 1))) (e, tt) refl refl
    ∙ ap f (value_decimal t e))
origin_fw (mode.Buchi) (origin.Next p t) e =
    skip (fits base_places (origin_line (origin.Next p t))) _ _ _
    (off keyword.Base keyword.Next (Number ∷ []) (decimal p ∷ decimal t ∷ []) base_next) (next_fw p t e)
origin_fw (mode.Finite) (origin.Next p t) e =
    skip (fits start_places (origin_line (origin.Next p t))) _ _ _
    (off keyword.Start keyword.Next [] (decimal p ∷ decimal t ∷ []) start_next) (next_fw p t e)

next_back : (m : Mode) (ts : Line) (from : Origin) → next_origin_in ts ≡ Ok from → OriginBack m ts from
next_back m ts from e =
    let p = as_bw next_places tail.Nothing (λ tokens. Ok (origin.Next (value_at tokens 1) (value_at tokens 2))) ts from e in
    let same : origin.Next (value_at ts 1) (value_at ts 2) ≡ from = let q = p.1 in cc in
    let P : Origin → Type 0 = λ from. OriginBack m ts from in
    subst P same
    (and_from (is_short (value_at ts 1)) (is_short (value_at ts 2)) p.0.heads.0 p.0.heads.1.0, closed_none next_places ts p.0)

pub origin_bw : (m : Mode) (ts : Line) (from : Origin) → origin_in m ts ≡ Ok from → OriginBack m ts from
origin_bw (mode.Buchi) ts from e =
    let P : Origin → Type 0 = λ from. OriginBack mode.Buchi ts from in
    ⊎_elim
    (λ d. let p = as_bw base_places tail.Nothing (λ tokens. Ok (origin.Base (value_at tokens 1))) ts from d in
    let same : origin.Base (value_at ts 1) ≡ from = let q = p.1 in cc in
    subst P same (p.0.heads.0, closed_none base_places ts p.0))
    (next_back mode.Buchi ts from)
    (either_bw (fits base_places ts) _ _ from e)
origin_bw (mode.Finite) ts from e =
    let P : Origin → Type 0 = λ from. OriginBack mode.Finite ts from in
    ⊎_elim
    (λ d. let p = as_bw start_places tail.Nothing (λ tokens. Ok origin.Start) ts from d in
    let same : origin.Start ≡ from = let q = p.1 in cc in
    subst P same (refl, closed_none start_places ts p.0))
    (next_back mode.Finite ts from)
    (either_bw (fits start_places ts) _ _ from e)

-- Elements of a yes.
abbrev pub ElementBack : Mode → Line → Element → Type 0
ElementBack m ts e = (is_element m e ≡ true) × (ts ≡ mark_tokens e.mark ++ origin_line e.origin)

live_next_fw : (p t : ℕ) → is_short p ≡ true → is_short t ≡ true
    → next_element_in (spelled keyword.Live ∷ origin_line (origin.Next p t)) ≡ Ok (live (origin.Next p t))
live_next_fw p t a b =
    let f : ℕ → ℕ → Said Element = λ x y. Ok (live (origin.Next x y)) in
    choose (fits live_next (spelled keyword.Live ∷ origin_line (origin.Next p t))) _ _ _ (fw_fits live_next (p ∷ t ∷ []) [] (a, (b, tt)))
    (as_fw live_next (p ∷ t ∷ []) [] tail.Nothing (λ tokens. Ok (live (origin.Next (value_at tokens 2) (value_at tokens 3)))) (a, (b, tt)) refl refl
    ∙ ap₂ f (value_decimal p a) (value_decimal t b))

under_next_fw : (j p t : ℕ) → is_short j ≡ true → is_short p ≡ true → is_short t ≡ true
    → next_element_in (spelled keyword.Under ∷ decimal j ∷ origin_line (origin.Next p t)) ≡ Ok (under j (origin.Next p t))
under_next_fw j p t s a b =
    let f : ℕ → ℕ → ℕ → Said Element = λ i x y. Ok (under i (origin.Next x y)) in
    skip (fits live_next (spelled keyword.Under ∷ decimal j ∷ origin_line (origin.Next p t))) _ _ _
    (off keyword.Live keyword.Under next_places (decimal j ∷ origin_line (origin.Next p t)) live_under)
    (as_fw under_next (j ∷ p ∷ t ∷ []) [] tail.Nothing
    (λ tokens. Ok (under (value_at tokens 1) (origin.Next (value_at tokens 3) (value_at tokens 4)))) (s, (a, (b, tt))) refl refl
    ∙ ap (λ i. f i (value (decimal p)) (value (decimal t))) (value_decimal j s)
    ∙ ap₂ (λ x y. f j x y) (value_decimal p a) (value_decimal t b))

element_of : (m : Mode) (mk : Mark) (from : Origin) → is_mark mk ≡ true → is_origin m from ≡ true
    → element_in m (mark_tokens mk ++ origin_line from) ≡ Ok (record { mark = mk; origin = from })
element_of (mode.Buchi) mk (origin.Start) s e = absurd (cc)
element_of (mode.Finite) mk (origin.Base t) s e = absurd (cc)
element_of (mode.Buchi) (mark.Live) (origin.Base t) s e =
    let f : ℕ → Said Element = λ x. Ok (live (origin.Base x)) in
    choose (fits live_base (spelled keyword.Live ∷ origin_line (origin.Base t))) _ _ _ (fw_fits live_base (t ∷ []) [] (e, tt))
    (as_fw live_base (t ∷ []) [] tail.Nothing (λ tokens. Ok (live (origin.Base (value_at tokens 2)))) (e, tt) refl refl
    ∙ ap f (value_decimal t e))
element_of (mode.Buchi) (mark.Under j) (origin.Base t) s e =
    let f : ℕ → ℕ → Said Element = λ i x. Ok (under i (origin.Base x)) in
    let ts = spelled keyword.Under ∷ decimal j ∷ origin_line (origin.Base t) in
    skip (fits live_base ts) _ _ _ (off keyword.Live keyword.Under base_places (decimal j ∷ origin_line (origin.Base t)) live_under)
    (choose (fits under_base ts) _ _ _ (fw_fits under_base (j ∷ t ∷ []) [] (s, (e, tt)))
    (as_fw under_base (j ∷ t ∷ []) [] tail.Nothing (λ tokens. Ok (under (value_at tokens 1) (origin.Base (value_at tokens 3)))) (s, (e, tt)) refl refl
    ∙ ap₂ f (value_decimal j s) (value_decimal t e)))
element_of (mode.Finite) (mark.Live) (origin.Start) s e =
    choose (fits live_start (spelled keyword.Live ∷ origin_line origin.Start)) _ _ _ (fw_fits live_start [] [] tt)
    (as_fw live_start [] [] tail.Nothing (λ tokens. Ok (live origin.Start)) tt refl refl)
element_of (mode.Finite) (mark.Under j) (origin.Start) s e =
    let f : ℕ → Said Element = λ i. Ok (under i origin.Start) in
    let ts = spelled keyword.Under ∷ decimal j ∷ origin_line origin.Start in
    skip (fits live_start ts) _ _ _ (off keyword.Live keyword.Under start_places (decimal j ∷ origin_line origin.Start) live_under)
    (choose (fits under_start ts) _ _ _ (fw_fits under_start (j ∷ []) [] (s, tt))
    (as_fw under_start (j ∷ []) [] tail.Nothing (λ tokens. Ok (under (value_at tokens 1) origin.Start)) (s, tt) refl refl
    ∙ ap f (value_decimal j s)))
element_of (mode.Buchi) (mark.Live) (origin.Next p t) s e =
    let a = and_parts (is_short p) (is_short t) e in
    let ts = spelled keyword.Live ∷ origin_line (origin.Next p t) in
    skip (fits live_base ts) _ _ _
    (off_second keyword.Live keyword.Base keyword.Next (Number ∷ []) (decimal p ∷ decimal t ∷ []) base_next)
    (skip (fits under_base ts) _ _ _ (off keyword.Under keyword.Live (Number ∷ base_places) (origin_line (origin.Next p t)) under_live)
    (live_next_fw p t a.0 a.1))
element_of (mode.Finite) (mark.Live) (origin.Next p t) s e =
    let a = and_parts (is_short p) (is_short t) e in
    let ts = spelled keyword.Live ∷ origin_line (origin.Next p t) in
    skip (fits live_start ts) _ _ _
    (off_second keyword.Live keyword.Start keyword.Next [] (decimal p ∷ decimal t ∷ []) start_next)
    (skip (fits under_start ts) _ _ _ (off keyword.Under keyword.Live (Number ∷ start_places) (origin_line (origin.Next p t)) under_live)
    (live_next_fw p t a.0 a.1))
element_of (mode.Buchi) (mark.Under j) (origin.Next p t) s e =
    let a = and_parts (is_short p) (is_short t) e in
    let ts = spelled keyword.Under ∷ decimal j ∷ origin_line (origin.Next p t) in
    skip (fits live_base ts) _ _ _ (off keyword.Live keyword.Under base_places (decimal j ∷ origin_line (origin.Next p t)) live_under)
    (skip (fits under_base ts) _ _ _
    (off_third keyword.Under keyword.Base keyword.Next j (Number ∷ []) (decimal p ∷ decimal t ∷ []) base_next)
    (under_next_fw j p t s a.0 a.1))
element_of (mode.Finite) (mark.Under j) (origin.Next p t) s e =
    let a = and_parts (is_short p) (is_short t) e in
    let ts = spelled keyword.Under ∷ decimal j ∷ origin_line (origin.Next p t) in
    skip (fits live_start ts) _ _ _ (off keyword.Live keyword.Under start_places (decimal j ∷ origin_line (origin.Next p t)) live_under)
    (skip (fits under_start ts) _ _ _
    (off_third keyword.Under keyword.Start keyword.Next j [] (decimal p ∷ decimal t ∷ []) start_next)
    (under_next_fw j p t s a.0 a.1))

pub element_fw : (m : Mode) (e : Element) → is_element m e ≡ true → element_in m (mark_tokens e.mark ++ origin_line e.origin) ≡ Ok e
element_fw m e h =
    let a = and_parts (is_mark e.mark) (is_origin m e.origin) h in
    element_of m e.mark e.origin a.0 a.1

next_element_back : (m : Mode) (ts : Line) (e : Element) → next_element_in ts ≡ Ok e → ElementBack m ts e
next_element_back m ts e h =
    let P : Element → Type 0 = λ e. ElementBack m ts e in
    ⊎_elim
    (λ d. let p = as_bw live_next tail.Nothing (λ tokens. Ok (live (origin.Next (value_at tokens 2) (value_at tokens 3)))) ts e d in
    let same : live (origin.Next (value_at ts 2) (value_at ts 3)) ≡ e = let q = p.1 in cc in
    subst P same (and_from (is_short (value_at ts 2)) (is_short (value_at ts 3)) p.0.heads.0 p.0.heads.1.0, closed_none live_next ts p.0))
    (λ d. let p = as_bw under_next tail.Nothing
    (λ tokens. Ok (under (value_at tokens 1) (origin.Next (value_at tokens 3) (value_at tokens 4)))) ts e d in
    let same : under (value_at ts 1) (origin.Next (value_at ts 3) (value_at ts 4)) ≡ e = let q = p.1 in cc in
    subst P same (
      and_from (is_short (value_at ts 1)) _ p.0.heads.0
          (and_from (is_short (value_at ts 3)) (is_short (value_at ts 4)) p.0.heads.1.0 p.0.heads.1.1.0),
      closed_none under_next ts p.0,
    ))
    (either_bw (fits live_next ts) _ _ e h)

pub element_bw : (m : Mode) (ts : Line) (e : Element) → element_in m ts ≡ Ok e → ElementBack m ts e
element_bw (mode.Buchi) ts e h =
    let P : Element → Type 0 = λ e. ElementBack mode.Buchi ts e in
    ⊎_elim
    (λ d. let p = as_bw live_base tail.Nothing (λ tokens. Ok (live (origin.Base (value_at tokens 2)))) ts e d in
    let same : live (origin.Base (value_at ts 2)) ≡ e = let q = p.1 in cc in
    subst P same (p.0.heads.0, closed_none live_base ts p.0))
    (λ more. ⊎_elim
    (λ d. let p = as_bw under_base tail.Nothing (λ tokens. Ok (under (value_at tokens 1) (origin.Base (value_at tokens 3)))) ts e d in
    let same : under (value_at ts 1) (origin.Base (value_at ts 3)) ≡ e = let q = p.1 in cc in
    subst P same (and_from (is_short (value_at ts 1)) (is_short (value_at ts 3)) p.0.heads.0 p.0.heads.1.0, closed_none under_base ts p.0))
    (next_element_back mode.Buchi ts e)
    (either_bw (fits under_base ts) _ _ e more))
    (either_bw (fits live_base ts) _ _ e h)
element_bw (mode.Finite) ts e h =
    let P : Element → Type 0 = λ e. ElementBack mode.Finite ts e in
    ⊎_elim
    (λ d. let p = as_bw live_start tail.Nothing (λ tokens. Ok (live origin.Start)) ts e d in
    let same : live origin.Start ≡ e = let q = p.1 in cc in
    subst P same (refl, closed_none live_start ts p.0))
    (λ more. ⊎_elim
    (λ d. let p = as_bw under_start tail.Nothing (λ tokens. Ok (under (value_at tokens 1) origin.Start)) ts e d in
    let same : under (value_at ts 1) origin.Start ≡ e = let q = p.1 in cc in
    subst P same (and_from (is_short (value_at ts 1)) true p.0.heads.0 refl, closed_none under_start ts p.0))
    (next_element_back mode.Finite ts e)
    (either_bw (fits under_start ts) _ _ e more))
    (either_bw (fits live_start ts) _ _ e h)

-- First lines.
heading_one : (m : Mode) (a : Form) → heading_in (first_line 1 m a) ≡ Ok (heading 1 m a)
unfolding spelled
heading_one (mode.Buchi) (form.Yes) = refl
heading_one (mode.Buchi) (form.No) = refl
heading_one (mode.Buchi) (form.List) = refl
heading_one (mode.Finite) (form.Yes) = refl
heading_one (mode.Finite) (form.No) = refl
heading_one (mode.Finite) (form.List) = refl

heading_two : (m : Mode) (a : Form) → heading_in (first_line 2 m a) ≡ Ok (heading 2 m a)
unfolding spelled
heading_two (mode.Buchi) (form.Yes) = refl
heading_two (mode.Buchi) (form.No) = refl
heading_two (mode.Buchi) (form.List) = refl
heading_two (mode.Finite) (form.Yes) = refl
heading_two (mode.Finite) (form.No) = refl
heading_two (mode.Finite) (form.List) = refl

pub heading_fw : (v : ℕ) (m : Mode) (a : Form) → is_version v ≡ true → heading_in (first_line v m a) ≡ Ok (heading v m a)
heading_fw v m a e =
    let P : ℕ → Type 0 = λ v. heading_in (first_line v m a) ≡ Ok (heading v m a) in
    ⊎_elim (λ one. subst P (sym (eqb-true v 1 one)) (heading_one m a)) (λ two. subst P (sym (eqb-true v 2 two)) (heading_two m a))
    (or_cases (v == 1) (v == 2) e)

pub none_from : (o : Option TextKind) → is_none o ≡ true → o ≡ None
none_from None e = refl
none_from (Some fault) e = absurd (cc)

-- A heading whose first line the line is.
abbrev pub IsHeadingOf : Line → Heading → Type 0
IsHeadingOf ts h = (is_version h.version ≡ true) × (ts ≡ first_line h.version h.mode h.form)

if_bw : (b : Bool) (own h : Heading) → cond b (let o : Option Heading = Some own in o) None ≡ Some h → (b ≡ true) × (own ≡ h)
if_bw true own h e = (refl, cc)
if_bw false own h e = absurd (cc)

if_heading_bw : (own : Heading) (ts : Line) (h : Heading) → is_version own.version ≡ true → if_heading own ts ≡ Some h → IsHeadingOf ts h
if_heading_bw own ts h v e =
    let p = if_bw (is_heading own ts) own h e in
    let ps = heading_places own in
    let P : Heading → Type 0 = λ h. IsHeadingOf ts h in
    subst P p.1 (v, closed_none ps ts (line_back ps tail.Nothing ts (none_from (line_fault ps tail.Nothing ts) p.0)))

else_bw : {A : Type 0} (o other : Option A) (a : A) → or_else o other ≡ Some a → (o ≡ Some a) ⊎ (other ≡ Some a)
else_bw (Some x) other a e = inl e
else_bw None other a e = inr e

mode_heading_bw : (v : ℕ) (m : Mode) (ts : Line) (h : Heading) → is_version v ≡ true → mode_heading_in v m ts ≡ Some h → IsHeadingOf ts h
mode_heading_bw v m ts h e f =
    let yes_or = if_heading (heading v m form.Yes) ts in
    let no_or = if_heading (heading v m form.No) ts in
    let list_or = if_heading (heading v m form.List) ts in
    ⊎_elim (if_heading_bw (heading v m form.Yes) ts h e)
    (λ more. ⊎_elim (if_heading_bw (heading v m form.No) ts h e) (if_heading_bw (heading v m form.List) ts h e) (else_bw no_or list_or h more))
    (else_bw yes_or (or_else no_or list_or) h f)

version_heading_bw : (v : ℕ) (ts : Line) (h : Heading) → is_version v ≡ true → version_heading_in v ts ≡ Some h → IsHeadingOf ts h
version_heading_bw v ts h e f =
    ⊎_elim (mode_heading_bw v mode.Buchi ts h e) (mode_heading_bw v mode.Finite ts h e)
    (else_bw (mode_heading_in v mode.Buchi ts) (mode_heading_in v mode.Finite ts) h f)

said_bw : (o : Option Heading) (h : Heading) → heading_said o ≡ Ok h → o ≡ Some h
said_bw (Some x) h e = let same : x ≡ h = cc in let f : Heading → Option Heading = λ y. Some y in ap f same
said_bw None h e = absurd (cc)

pub heading_bw : (ts : Line) (h : Heading) → heading_in ts ≡ Ok h → IsHeadingOf ts h
heading_bw ts h e =
    ⊎_elim (version_heading_bw 1 ts h refl) (version_heading_bw 2 ts h refl)
    (else_bw (version_heading_in 1 ts) (version_heading_in 2 ts) h
    (said_bw (or_else (version_heading_in 1 ts) (version_heading_in 2 ts)) h e))
