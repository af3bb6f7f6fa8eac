-- Lists that were sorted and lost their repeats.
use Rattle.std.proofs.Common.{◌≡◌, ℕ, zero, suc, ◌+◌, ◌<◌, ◌⊎◌, inl, inr, Bool, true, false, cond, ◌&&◌, List, [], ◌∷◌, length, get_or, Contains, eqb, refl, sym, ap, ◌∙◌, subst, arith, add-one}
use Rattle.std.specs.List.{dedup_from, dedup}
use Rattle.std.specs.Ordering.{is_lt}
use Rattle.std.proofs.lemmas.Bool.{cases_Bool, false≢true}
use Rattle.std.proofs.lemmas.Bool.Decides.{nat_tests}
use Rattle.auto_core.specs.Automaton.{IsBefore, HasRepeat, trans}
use Rattle.auto_core.specs.declared.parts.Trans.{Trans}
use Rattle.auto_core.specs.contracts.parts.TransOrd.TheImpl.{cmp-value}
use Rattle.auto_core.proofs.Order.{rises, same_trans, IsBefore-trans}
use Rattle.auto_core.proofs.PathLemmas.{Contains-here, Contains-later, Contains-cons_cases, none_in_nil}
use Rattle.auto_core.proofs.MemberLemmas.{Rises}

-- whether two transitions are equal, part by part
abbrev pub equal : Trans → Trans → Bool
equal t u = eqb t.source u.source && (eqb t.label u.label && eqb t.target u.target)

equal_itself : (t : Trans) → equal t t ≡ true
equal_itself t = go t.source t.label t.target
  where
    go : (a b c : ℕ) → equal (trans a b c) (trans a b c) ≡ true
    go a b c = grind (arith, nat_tests)

unequal : (t u : Trans) → equal t u ≡ false → ¬ (t ≡ u)
unequal t u h e = false≢true (sym h ∙ ap (λ x. equal x u) e ∙ equal_itself u)

-- each stands before the next, or is the same
abbrev pub Climbs : Trans → List Trans → Type 0
Climbs k [] = Unit {0}
Climbs k (x ∷ xs) = ((k ≡ x) ⊎ IsBefore k x) × Climbs x xs

at_most : (t u : Trans) → is_lt (cmp-value.it u t) ≡ false → (t ≡ u) ⊎ IsBefore t u
at_most t u h = elim (cases_Bool (equal t u)) [
  | inl is ↦ inl (same_trans t u (sym is))
  | inr not_is ↦ inr (rises t u h (unequal t u not_is))
]

pub climbs : (x : Trans) (xs : List Trans) → ((k : ℕ) (d : Trans) → k + 1 < length (x ∷ xs) → is_lt (cmp-value.it (get_or (x ∷ xs) (k + 1) d) (get_or (x ∷ xs) k d)) ≡ false) → Climbs x xs
climbs x [] h = tt
climbs x (y ∷ ys) h = (
  at_most x y (h 0 x (omega arith)),
  climbs y ys (λ k d lt. rw add-one (let next = h (k + 1) d (omega arith) in shifted k d next)),
)
  where
    shifted : (k : ℕ) (d : Trans) → is_lt (cmp-value.it (get_or (x ∷ y ∷ ys) (k + 1 + 1) d) (get_or (x ∷ y ∷ ys) (k + 1) d)) ≡ false → is_lt (cmp-value.it (get_or (y ∷ ys) (suc k) d) (get_or (y ∷ ys) k d)) ≡ false
    shifted k d h = rw (add-one k, add-one (suc k)) at h

rises_on : (k x : Trans) (xs : List Trans) (b : Bool) → equal x k ≡ b → (k ≡ x) ⊎ IsBefore k x → Climbs x xs
    → ((j : Trans) → Climbs j xs → Rises IsBefore (dedup_from equal j xs) × ((z : Trans) → Contains (dedup_from equal j xs) z → (j ≡ z) ⊎ IsBefore j z))
    → (let ds = cond b (dedup_from equal k xs) (k ∷ dedup_from equal x xs) in Rises IsBefore ds × ((z : Trans) → Contains ds z → (k ≡ z) ⊎ IsBefore k z))
rises_on k x xs true e leq c ih = ih k (subst (λ t. Climbs t xs) (same_trans x k (sym e)) c)
rises_on k x xs false e leq c ih =
    let (up, after) = ih x c in
    let before : IsBefore k x = elim leq [ inl same ↦ absurd (unequal x k e (sym same)) | inr h ↦ h ] in
    let behind : (y : Trans) → Contains (dedup_from equal x xs) y → IsBefore k y = λ y h. elim (after y h) [
      | inl same ↦ subst (λ t. IsBefore k t) same before
      | inr later ↦ IsBefore-trans k x y before later
    ] in (
      (behind, up),
      λ z h. elim (Contains-cons_cases k z (dedup_from equal x xs) h) [ inl same ↦ inl same | inr later ↦ inr (behind z later) ],
    )

dedup_rises : (k : Trans) (xs : List Trans) → Climbs k xs → Rises IsBefore (dedup_from equal k xs) × ((z : Trans) → Contains (dedup_from equal k xs) z → (k ≡ z) ⊎ IsBefore k z)
dedup_rises k [] c = (
  ((λ y h. absurd (none_in_nil y h)), tt),
  λ z h. elim (Contains-cons_cases k z [] h) [ inl same ↦ inl same | inr none ↦ absurd (none_in_nil z none) ],
)
dedup_rises k (x ∷ xs) (leq, c) = rises_on k x xs (equal x k) refl leq c (λ j climbing. dedup_rises j xs climbing)

-- what the list has stays
has_on : (k x : Trans) (xs : List Trans) (z : Trans) (b : Bool) → equal x k ≡ b → (k ≡ z) ⊎ ((x ≡ z) ⊎ Contains xs z)
    → ((j : Trans) → (j ≡ z) ⊎ Contains xs z → Contains (dedup_from equal j xs) z)
    → Contains (cond b (dedup_from equal k xs) (k ∷ dedup_from equal x xs)) z
has_on k x xs z true e (inl same) ih = ih k (inl same)
has_on k x xs z true e (inr (inl same)) ih = ih k (inl (sym (same_trans x k (sym e)) ∙ same))
has_on k x xs z true e (inr (inr later)) ih = ih k (inr later)
has_on k x xs z false e (inl same) ih = Contains-here k z (dedup_from equal x xs) same
has_on k x xs z false e (inr rest) ih = Contains-later k z (dedup_from equal x xs) (ih x rest)

dedup_has : (k : Trans) (xs : List Trans) (z : Trans) → (k ≡ z) ⊎ Contains xs z → Contains (dedup_from equal k xs) z
dedup_has k [] z (inl same) = Contains-here k z [] same
dedup_has k [] z (inr none) = absurd (none_in_nil z none)
dedup_has k (x ∷ xs) z h = has_on k x xs z (equal x k) refl (elim h [ inl same ↦ inl same | inr there ↦ inr (Contains-cons_cases x z xs there) ]) (λ j g. dedup_has j xs z g)

-- what rises has no repeat
pub rises_once : {X : Type 0} (R : X → X → Type 0) → ((x : X) → R x x → ⊥) → (xs : List X) → Rises R xs → HasRepeat xs → ⊥
rises_once R irreflexive [] up (i, j, differ, i_in, j_in, e) = omega arith
rises_once {X} R irreflexive (x ∷ xs) up (zero, zero, differ, i_in, j_in, e) = differ refl
rises_once {X} R irreflexive (x ∷ xs) up (zero, suc j, differ, i_in, j_in, e) = irreflexive x (up.0 x (j, omega arith, sym (e x)))
rises_once {X} R irreflexive (x ∷ xs) up (suc i, zero, differ, i_in, j_in, e) = irreflexive x (up.0 x (i, omega arith, e x))
rises_once {X} R irreflexive (x ∷ xs) up (suc i, suc j, differ, i_in, j_in, e) = rises_once R irreflexive xs up.1 (i, j, (λ s. differ (ap suc s)), omega arith, omega arith, e)

never : (t : Trans) → IsBefore t t → ⊥
never t h = go t.source t.label t.target h
  where
    go : (a b c : ℕ) → IsBefore (trans a b c) (trans a b c) → ⊥
    go a b c h = omega arith

pub distinct_once : (xs : List Trans) → ((k : ℕ) (d : Trans) → k + 1 < length xs → is_lt (cmp-value.it (get_or xs (k + 1) d) (get_or xs k d)) ≡ false) → HasRepeat (dedup equal xs) → ⊥
distinct_once [] sorted (i, j, differ, i_in, j_in, e) = omega arith
distinct_once (x ∷ xs) sorted r = rises_once IsBefore never (dedup_from equal x xs) (dedup_rises x xs (climbs x xs sorted)).0 r

pub distinct_has : (xs : List Trans) (z : Trans) → Contains xs z → Contains (dedup equal xs) z
distinct_has [] z h = h
distinct_has (x ∷ xs) z h = dedup_has x xs z (Contains-cons_cases x z xs h)
