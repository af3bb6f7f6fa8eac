use Rattle.std.proofs.Common.{◌≡◌, ℕ, ◌==◌, List, [], ◌∷◌, Bool, true, false, ◌&&◌, cond, nat_lt, nat_le, decimal, Ok, Err, refl, sym, ap, ap₂, ◌∙◌, subst, arith, ⊎_elim, lt-ltb, eqb-true, leb-true}
use Rattle.std.specs.Str.{bytes_eq}
use Rattle.std.proofs.lemmas.Bool.{and_parts, and_from, and_left, and_right, cond-true, cond-false}
use Rattle.auto_core.specs.declared.parts.Mode.{Mode}
use Rattle.auto_core.specs.declared.parts.Mode.TheVariants as mode
use Rattle.cert_value.specs.declared.keywords.Keyword.{Keyword}
use Rattle.cert_value.specs.declared.keywords.Keyword.TheVariants as keyword
use Rattle.cert_line.specs.declared.shapes.Place.{Place}
use Rattle.cert_line.specs.declared.shapes.Place.TheVariants.{Word, Number}
use Rattle.cert_line.specs.declared.shapes.Tail.TheVariants as tail
use Rattle.cert_line.specs.declared.faults.TextKind.TheVariants as kind
use Rattle.cert_line.specs.declared.heads.FirstHead.{FirstHead}
use Rattle.cert_line.specs.declared.heads.FirstHead.TheVariants as first
use Rattle.cert_line.specs.declared.heads.SecondHead.{SecondHead}
use Rattle.cert_line.specs.declared.heads.SecondHead.TheVariants as second
use Rattle.cert_line.specs.declared.heads.Way.{Way}
use Rattle.cert_line.specs.declared.heads.Way.TheVariants as way
use Rattle.cert_value.specs.Text.{Line, spelled, numbers, letters_tokens}
use Rattle.cert_value.specs.WellFormed.{is_short, are_short, ascend, blocks_due, are_letters, are_kept}
use Rattle.cert_line.specs.Shapes.{fits, value_at}
use Rattle.cert_line.specs.Lines.{Said, as_shape, first_head_in, second_cut_in, merge_places, plain_delayed_in, announced_delayed_in, delayed_in, delayed_or_cut_in, merge_or_cut_in, second_head_in}
use Rattle.cert_line.proofs.NumberFacts.{value_decimal}
use Rattle.cert_line.proofs.ShapeFacts.{fw_fits, as_fw, as_bw, closed_none, either_bw}
use Rattle.cert_line.proofs.LineFacts.{sorted_fw, sorted_bw}
use Rattle.std.proofs.lemmas.Slice.Eq.{bytes_eq-Decides}

-- Places whose words do not fit, at the first, the second or the third place.
pub off : (w v : Keyword) (ps : List Place) (ts : Line) → bytes_eq (spelled v) (spelled w) ≡ false
    → fits (Word w ∷ ps) (spelled v ∷ ts) ≡ false
off w v ps ts e = and_left (bytes_eq (spelled v) (spelled w)) (fits ps ts) e

pub off_second : (a w v : Keyword) (ps : List Place) (ts : Line) → bytes_eq (spelled v) (spelled w) ≡ false
    → fits (Word a ∷ Word w ∷ ps) (spelled a ∷ spelled v ∷ ts) ≡ false
off_second a w v ps ts e = and_right (bytes_eq (spelled a) (spelled a)) (fits (Word w ∷ ps) (spelled v ∷ ts)) (off w v ps ts e)

pub off_third : (a w v : Keyword) (n : ℕ) (ps : List Place) (ts : Line) → bytes_eq (spelled v) (spelled w) ≡ false
    → fits (Word a ∷ Number ∷ Word w ∷ ps) (spelled a ∷ decimal n ∷ spelled v ∷ ts) ≡ false
off_third a w v n ps ts e = and_right (bytes_eq (spelled a) (spelled a)) (fits (Word w ∷ ps) (spelled v ∷ ts)) (off w v ps ts e)

pub skip : {A : Type 0} (b : Bool) (x y r : Said A) → b ≡ false → y ≡ r → cond b x y ≡ r
skip b x y r e f = cond-false b x y e ∙ f

pub choose : {A : Type 0} (b : Bool) (x y r : Said A) → b ≡ true → x ≡ r → cond b x y ≡ r
choose b x y r e f = cond-true b x y e ∙ f

pub first_fits : (w : Keyword) (ts : Line) → fits (Word w ∷ []) (spelled w ∷ ts) ≡ true
first_fits w ts = and_from (bytes_eq (spelled w) (spelled w)) true ((bytes_eq-Decides (spelled w) (spelled w)).1 refl) refl

trim_merge : bytes_eq (spelled keyword.Merge) (spelled keyword.Trim) ≡ false
unfolding spelled
trim_merge = refl

trim_cut : bytes_eq (spelled keyword.Cut) (spelled keyword.Trim) ≡ false
unfolding spelled
trim_cut = refl

merge_cut : bytes_eq (spelled keyword.Cut) (spelled keyword.Merge) ≡ false
unfolding spelled
merge_cut = refl

forward_backward : bytes_eq (spelled keyword.Backward) (spelled keyword.Forward) ≡ false
unfolding spelled
forward_backward = refl

forward_delayed : bytes_eq (spelled keyword.Delayed) (spelled keyword.Forward) ≡ false
unfolding spelled
forward_delayed = refl

backward_delayed : bytes_eq (spelled keyword.Delayed) (spelled keyword.Backward) ≡ false
unfolding spelled
backward_delayed = refl

-- Heads of steps of the first log.
abbrev pub first_head_line : FirstHead → Line
first_head_line (first.Trim kept) = spelled keyword.Trim ∷ numbers kept
first_head_line (first.Merge) = spelled keyword.Merge ∷ []
first_head_line (first.Cut pair look) = spelled keyword.Cut ∷ decimal pair ∷ decimal look ∷ []

abbrev pub is_first_head : FirstHead → Bool
is_first_head (first.Trim kept) = are_kept kept
is_first_head (first.Merge) = true
is_first_head (first.Cut pair look) = nat_lt 0 (blocks_due pair) && is_short look

pair_by : (p : ℕ) (a b c d : Bool) → (a ≡ true → p ≡ 1) → (b ≡ true → p ≡ 2) → (c ≡ true → p ≡ 3) → (d ≡ true → p ≡ 4)
    → nat_lt 0 (cond a 1 (cond b 1 (cond c 2 (cond d 2 0)))) ≡ true → is_short p ≡ true
pair_by p true b c d f g h i e = ap is_short (f refl)
pair_by p false true c d f g h i e = ap is_short (g refl)
pair_by p false false true d f g h i e = ap is_short (h refl)
pair_by p false false false true f g h i e = ap is_short (i refl)
pair_by p false false false false f g h i e = absurd (cc)

pair_short : (p : ℕ) → nat_lt 0 (blocks_due p) ≡ true → is_short p ≡ true
pair_short p e =
    pair_by p (p == 1) (p == 2) (p == 3) (p == 4) (eqb-true p 1) (eqb-true p 2) (eqb-true p 3) (eqb-true p 4) e

pub first_head_fw : (h : FirstHead) → is_first_head h ≡ true → first_head_in (first_head_line h) ≡ Ok h
first_head_fw (first.Trim kept) e =
    let a = and_parts (are_short kept) (ascend kept) e in
    choose (fits (Word keyword.Trim ∷ []) (spelled keyword.Trim ∷ numbers kept)) _ _ _ (first_fits keyword.Trim (numbers kept))
    (sorted_fw keyword.Trim tail.Numbers first.Trim kept a.0 a.1 refl)
first_head_fw (first.Merge) e =
    skip (fits (Word keyword.Trim ∷ []) (spelled keyword.Merge ∷ [])) _ _ _ (off keyword.Trim keyword.Merge [] [] trim_merge)
    (choose (fits (Word keyword.Merge ∷ []) (spelled keyword.Merge ∷ [])) _ _ _ (first_fits keyword.Merge [])
    (as_fw (Word keyword.Merge ∷ []) [] [] tail.Nothing (λ tokens. Ok first.Merge) tt refl refl))
first_head_fw (first.Cut pair look) e =
    let a = and_parts (nat_lt 0 (blocks_due pair)) (is_short look) e in
    let s = pair_short pair a.0 in
    let f : ℕ → ℕ → Said FirstHead = λ p k. cond (nat_lt 0 (blocks_due p)) (Ok (first.Cut p k)) (Err kind.Shape) in
    let ts = spelled keyword.Cut ∷ decimal pair ∷ decimal look ∷ [] in
    skip (fits (Word keyword.Trim ∷ []) ts) _ _ _ (off keyword.Trim keyword.Cut [] (decimal pair ∷ decimal look ∷ []) trim_cut)
    (skip (fits (Word keyword.Merge ∷ []) ts) _ _ _ (off keyword.Merge keyword.Cut [] (decimal pair ∷ decimal look ∷ []) merge_cut)
    (as_fw (Word keyword.Cut ∷ Number ∷ Number ∷ []) (pair ∷ look ∷ []) [] tail.Nothing
    (λ tokens. f (value_at tokens 1) (value_at tokens 2)) (s, (a.1, tt)) refl refl
    ∙ ap₂ f (value_decimal pair s) (value_decimal look a.1)
    ∙ cond-true (nat_lt 0 (blocks_due pair)) (Ok (first.Cut pair look)) (Err kind.Shape) a.0))

shape_bw : {A : Type 0} (b : Bool) (x h : A) → cond b (let s : Said A = Ok x in s) (Err kind.Shape) ≡ Ok h → (b ≡ true) × (x ≡ h)
shape_bw true x h e = (refl, cc)
shape_bw false x h e = absurd (cc)

pub first_head_bw : (ts : Line) (h : FirstHead) → first_head_in ts ≡ Ok h → (is_first_head h ≡ true) × (ts ≡ first_head_line h)
first_head_bw ts h e =
    let P : FirstHead → Type 0 = λ h. (is_first_head h ≡ true) × (ts ≡ first_head_line h) in
    ⊎_elim
    (λ trim. let r = sorted_bw keyword.Trim tail.Numbers first.Trim ts h trim in
    subst P r.5 (and_from (are_short r.0) (ascend r.0) r.1 r.2, r.4))
    (λ more. ⊎_elim
    (λ merge. let p = as_bw (Word keyword.Merge ∷ []) tail.Nothing (λ tokens. Ok first.Merge) ts h merge in
    let same : first.Merge ≡ h = let q = p.1 in cc in
    subst P same (refl, closed_none (Word keyword.Merge ∷ []) ts p.0))
    (λ cut.
    let ps = Word keyword.Cut ∷ Number ∷ Number ∷ [] in
    let f : ℕ → ℕ → Said FirstHead = λ p k. cond (nat_lt 0 (blocks_due p)) (Ok (first.Cut p k)) (Err kind.Shape) in
    let p = as_bw ps tail.Nothing (λ tokens. f (value_at tokens 1) (value_at tokens 2)) ts h cut in
    let c = shape_bw (nat_lt 0 (blocks_due (value_at ts 1))) (first.Cut (value_at ts 1) (value_at ts 2)) h p.1 in
    subst P c.1 (and_from _ (is_short (value_at ts 2)) c.0 p.0.heads.1.0, closed_none ps ts p.0))
    (either_bw (fits (Word keyword.Merge ∷ []) ts) _ _ h more))
    (either_bw (fits (Word keyword.Trim ∷ []) ts) _ _ h e)

-- Heads of steps of the second log.
abbrev pub way_tokens : ℕ → Way → Line
way_tokens v (way.Forward look) = spelled keyword.Forward ∷ decimal look ∷ []
way_tokens v (way.Backward look) = spelled keyword.Backward ∷ decimal look ∷ []
way_tokens v (way.Delayed letters) = spelled keyword.Delayed ∷ letters_tokens v letters

abbrev pub second_head_line : ℕ → SecondHead → Line
second_head_line v (second.Trim kept) = spelled keyword.Trim ∷ numbers kept
second_head_line v (second.Merge by) = spelled keyword.Merge ∷ way_tokens v by
second_head_line v (second.Cut) = spelled keyword.Cut ∷ []

abbrev pub is_way : ℕ → Mode → Way → Bool
is_way v m (way.Forward look) = is_short look
is_way v m (way.Backward look) = is_short look
is_way v (mode.Buchi) (way.Delayed letters) = are_letters v letters
is_way v (mode.Finite) (way.Delayed letters) = false

abbrev pub is_second_head : ℕ → Mode → SecondHead → Bool
is_second_head v m (second.Trim kept) = are_kept kept
is_second_head v m (second.Merge by) = is_way v m by
is_second_head v m (second.Cut) = true

abbrev pub merged : (ℕ → Way) → ℕ → SecondHead
merged by look = second.Merge (by look)

merge_fw : (w : Keyword) (by : ℕ → Way) (look : ℕ) → is_short look ≡ true
    → as_shape (merge_places w) tail.Nothing (λ tokens. Ok (merged by (value_at tokens 2))) (spelled keyword.Merge ∷ spelled w ∷ decimal look ∷ [])
    ≡ Ok (merged by look)
merge_fw w by look s =
    let f : ℕ → Said SecondHead = λ k. Ok (merged by k) in
    as_fw (merge_places w) (look ∷ []) [] tail.Nothing (λ tokens. Ok (merged by (value_at tokens 2))) (s, tt) refl refl
    ∙ ap f (value_decimal look s)

trim_off : (v : ℕ) (m : Mode) (w : Keyword) (ts : Line) (r : Said SecondHead) → bytes_eq (spelled w) (spelled keyword.Trim) ≡ false
    → merge_or_cut_in v m (spelled w ∷ ts) ≡ r → second_head_in v m (spelled w ∷ ts) ≡ r
trim_off v m w ts r e f = skip (fits (Word keyword.Trim ∷ []) (spelled w ∷ ts)) _ _ r (off keyword.Trim w [] ts e) f

cut_fw : second_cut_in (spelled keyword.Cut ∷ []) ≡ Ok second.Cut
cut_fw = as_fw (Word keyword.Cut ∷ []) [] [] tail.Nothing (λ tokens. Ok second.Cut) tt refl refl

delayed_cut : (v : ℕ) (m : Mode) → delayed_or_cut_in v m (spelled keyword.Cut ∷ []) ≡ Ok second.Cut
delayed_cut v (mode.Buchi) =
    skip (fits (Word keyword.Merge ∷ Word keyword.Delayed ∷ []) (spelled keyword.Cut ∷ [])) _ _ _
    (off keyword.Merge keyword.Cut (Word keyword.Delayed ∷ []) [] merge_cut) cut_fw
delayed_cut v (mode.Finite) = cut_fw

-- The head of a merge by delayed simulation, in each version.
letters_short : (n : ℕ) → are_letters 2 n ≡ true → is_short n ≡ true
letters_short n e =
    let a = and_parts (nat_le 1 n) (nat_le n 4) e in
    let high = leb-true n 4 a.1 in
    lt-ltb n 1000000000 (omega arith)

delayed_fw_by : (b : Bool) (letters : ℕ) → cond b (are_letters 2 letters) (letters == 1) ≡ true
    → (let ts = spelled keyword.Merge ∷ spelled keyword.Delayed ∷ cond b (decimal letters ∷ []) [] in
    cond b (announced_delayed_in ts) (plain_delayed_in ts)) ≡ Ok (second.Merge (way.Delayed letters))
delayed_fw_by true letters e =
    let s = letters_short letters e in
    let f : ℕ → Said SecondHead = λ n. cond (are_letters 2 n) (Ok (second.Merge (way.Delayed n))) (Err kind.Shape) in
    as_fw (merge_places keyword.Delayed) (letters ∷ []) [] tail.Nothing (λ tokens. f (value_at tokens 2)) (s, tt) refl refl
    ∙ ap f (value_decimal letters s)
    ∙ cond-true (are_letters 2 letters) (Ok (second.Merge (way.Delayed letters))) (Err kind.Shape) e
delayed_fw_by false letters e =
    let f : ℕ → Said SecondHead = λ n. Ok (second.Merge (way.Delayed n)) in
    as_fw (Word keyword.Merge ∷ Word keyword.Delayed ∷ []) [] [] tail.Nothing (λ tokens. Ok (second.Merge (way.Delayed 1))) tt refl refl
    ∙ ap f (sym (eqb-true letters 1 e))

delayed_fw : (v letters : ℕ) → are_letters v letters ≡ true
    → delayed_in v (spelled keyword.Merge ∷ spelled keyword.Delayed ∷ letters_tokens v letters) ≡ Ok (second.Merge (way.Delayed letters))
delayed_fw v letters e = delayed_fw_by (v == 2) letters e

pub second_head_fw : (v : ℕ) (m : Mode) (h : SecondHead) → is_second_head v m h ≡ true → second_head_in v m (second_head_line v h) ≡ Ok h
second_head_fw v m (second.Trim kept) e =
    let a = and_parts (are_short kept) (ascend kept) e in
    choose (fits (Word keyword.Trim ∷ []) (spelled keyword.Trim ∷ numbers kept)) _ _ _ (first_fits keyword.Trim (numbers kept))
    (sorted_fw keyword.Trim tail.Numbers second.Trim kept a.0 a.1 refl)
second_head_fw v m (second.Merge (way.Forward look)) e =
    let ts = spelled keyword.Merge ∷ spelled keyword.Forward ∷ decimal look ∷ [] in
    trim_off v m keyword.Merge (spelled keyword.Forward ∷ decimal look ∷ []) _ trim_merge
    (choose (fits (merge_places keyword.Forward) ts) _ _ _ (fw_fits (merge_places keyword.Forward) (look ∷ []) [] (e, tt))
    (merge_fw keyword.Forward way.Forward look e))
second_head_fw v m (second.Merge (way.Backward look)) e =
    let ts = spelled keyword.Merge ∷ spelled keyword.Backward ∷ decimal look ∷ [] in
    trim_off v m keyword.Merge (spelled keyword.Backward ∷ decimal look ∷ []) _ trim_merge
    (skip (fits (merge_places keyword.Forward) ts) _ _ _
    (off_second keyword.Merge keyword.Forward keyword.Backward (Number ∷ []) (decimal look ∷ []) forward_backward)
    (choose (fits (merge_places keyword.Backward) ts) _ _ _ (fw_fits (merge_places keyword.Backward) (look ∷ []) [] (e, tt))
    (merge_fw keyword.Backward way.Backward look e)))
second_head_fw v (mode.Buchi) (second.Merge (way.Delayed letters)) e =
    let ps = Word keyword.Merge ∷ Word keyword.Delayed ∷ [] in
    let more = letters_tokens v letters in
    let ts = spelled keyword.Merge ∷ spelled keyword.Delayed ∷ more in
    trim_off v mode.Buchi keyword.Merge (spelled keyword.Delayed ∷ more) _ trim_merge
    (skip (fits (merge_places keyword.Forward) ts) _ _ _
    (off_second keyword.Merge keyword.Forward keyword.Delayed (Number ∷ []) more forward_delayed)
    (skip (fits (merge_places keyword.Backward) ts) _ _ _
    (off_second keyword.Merge keyword.Backward keyword.Delayed (Number ∷ []) more backward_delayed)
    (choose (fits ps ts) _ _ _ (fw_fits ps [] more tt) (delayed_fw v letters e))))
second_head_fw v (mode.Finite) (second.Merge (way.Delayed letters)) e = absurd (cc)
second_head_fw v m (second.Cut) e =
    let ts = spelled keyword.Cut ∷ [] in
    trim_off v m keyword.Cut [] _ trim_cut
    (skip (fits (merge_places keyword.Forward) ts) _ _ _
    (off keyword.Merge keyword.Cut (Word keyword.Forward ∷ Number ∷ []) [] merge_cut)
    (skip (fits (merge_places keyword.Backward) ts) _ _ _
    (off keyword.Merge keyword.Cut (Word keyword.Backward ∷ Number ∷ []) [] merge_cut)
    (delayed_cut v m)))

abbrev pub SecondBack : ℕ → Mode → Line → SecondHead → Type 0
SecondBack v m ts h = (is_second_head v m h ≡ true) × (ts ≡ second_head_line v h)

cut_back : (v : ℕ) (m : Mode) (ts : Line) (h : SecondHead) → second_cut_in ts ≡ Ok h → SecondBack v m ts h
cut_back v m ts h e =
    let p = as_bw (Word keyword.Cut ∷ []) tail.Nothing (λ tokens. Ok second.Cut) ts h e in
    let same : second.Cut ≡ h = let q = p.1 in cc in
    let P : SecondHead → Type 0 = λ h. SecondBack v m ts h in
    subst P same (refl, closed_none (Word keyword.Cut ∷ []) ts p.0)

-- What the head of a merge by delayed simulation says of its line.
record IsDelayedLine (b : Bool) (ts : Line) (h : SecondHead) : Type 0 where
  pub letters : ℕ
  pub few : cond b (are_letters 2 letters) (letters == 1) ≡ true
  pub head : second.Merge (way.Delayed letters) ≡ h
  pub line : ts ≡ spelled keyword.Merge ∷ spelled keyword.Delayed ∷ cond b (decimal letters ∷ []) []

delayed_bw_by : (b : Bool) (ts : Line) (h : SecondHead) → cond b (announced_delayed_in ts) (plain_delayed_in ts) ≡ Ok h → IsDelayedLine b ts h
delayed_bw_by true ts h e =
    let ps = merge_places keyword.Delayed in
    let n = value_at ts 2 in
    let p = as_bw ps tail.Nothing
    (λ tokens. cond (are_letters 2 (value_at tokens 2)) (Ok (second.Merge (way.Delayed (value_at tokens 2)))) (Err kind.Shape)) ts h e in
    let c = shape_bw (are_letters 2 n) (second.Merge (way.Delayed n)) h p.1 in
    record { letters = n; few = c.0; head = c.1; line = closed_none ps ts p.0 }
delayed_bw_by false ts h e =
    let ps = Word keyword.Merge ∷ Word keyword.Delayed ∷ [] in
    let p = as_bw ps tail.Nothing (λ tokens. Ok (second.Merge (way.Delayed 1))) ts h e in
    let same : second.Merge (way.Delayed 1) ≡ h = let q = p.1 in cc in
    record { letters = 1; few = refl; head = same; line = closed_none ps ts p.0 }

delayed_bw : (v : ℕ) (ts : Line) (h : SecondHead) → delayed_in v ts ≡ Ok h → SecondBack v mode.Buchi ts h
delayed_bw v ts h e =
    let d = delayed_bw_by (v == 2) ts h e in
    let P : SecondHead → Type 0 = λ h. SecondBack v mode.Buchi ts h in
    subst P d.head (d.few, d.line)

delayed_back : (v : ℕ) (m : Mode) (ts : Line) (h : SecondHead) → delayed_or_cut_in v m ts ≡ Ok h → SecondBack v m ts h
delayed_back v (mode.Finite) ts h e = cut_back v mode.Finite ts h e
delayed_back v (mode.Buchi) ts h e =
    ⊎_elim (delayed_bw v ts h) (cut_back v mode.Buchi ts h)
    (either_bw (fits (Word keyword.Merge ∷ Word keyword.Delayed ∷ []) ts) _ _ h e)

forward_back : (v : ℕ) (m : Mode) (ts : Line) (h : SecondHead)
    → as_shape (merge_places keyword.Forward) tail.Nothing (λ tokens. Ok (second.Merge (way.Forward (value_at tokens 2)))) ts ≡ Ok h → SecondBack v m ts h
forward_back v m ts h e =
    let p = as_bw (merge_places keyword.Forward) tail.Nothing (λ tokens. Ok (second.Merge (way.Forward (value_at tokens 2)))) ts h e in
    let same : second.Merge (way.Forward (value_at ts 2)) ≡ h = let q = p.1 in cc in
    let P : SecondHead → Type 0 = λ h. SecondBack v m ts h in
    subst P same (p.0.heads.0, closed_none (merge_places keyword.Forward) ts p.0)

backward_back : (v : ℕ) (m : Mode) (ts : Line) (h : SecondHead)
    → as_shape (merge_places keyword.Backward) tail.Nothing (λ tokens. Ok (second.Merge (way.Backward (value_at tokens 2)))) ts ≡ Ok h → SecondBack v m ts h
backward_back v m ts h e =
    let p = as_bw (merge_places keyword.Backward) tail.Nothing (λ tokens. Ok (second.Merge (way.Backward (value_at tokens 2)))) ts h e in
    let same : second.Merge (way.Backward (value_at ts 2)) ≡ h = let q = p.1 in cc in
    let P : SecondHead → Type 0 = λ h. SecondBack v m ts h in
    subst P same (p.0.heads.0, closed_none (merge_places keyword.Backward) ts p.0)

pub second_head_bw : (v : ℕ) (m : Mode) (ts : Line) (h : SecondHead) → second_head_in v m ts ≡ Ok h → SecondBack v m ts h
second_head_bw v m ts h e =
    let P : SecondHead → Type 0 = λ h. SecondBack v m ts h in
    ⊎_elim
    (λ trim. let r = sorted_bw keyword.Trim tail.Numbers second.Trim ts h trim in
    subst P r.5 (and_from (are_short r.0) (ascend r.0) r.1 r.2, r.4))
    (λ more. ⊎_elim (forward_back v m ts h)
    (λ rest. ⊎_elim (backward_back v m ts h) (delayed_back v m ts h) (either_bw (fits (merge_places keyword.Backward) ts) _ _ h rest))
    (either_bw (fits (merge_places keyword.Forward) ts) _ _ h more))
    (either_bw (fits (Word keyword.Trim ∷ []) ts) _ _ h e)
