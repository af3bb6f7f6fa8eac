-- No more different things than what each of them answers to, and lists put in order.
use Rattle.std.proofs.Common.{◌≡◌, ℕ, zero, suc, ◌<◌, ◌≤◌, ◌⊎◌, ◌↔◌, inl, inr, List, [], ◌∷◌, length, get_or, All, Contains, refl, sym, ap, ◌∙◌, subst, arith}
use Rattle.std.proofs.lemmas.Bool.{cases_lt}
use Rattle.std.proofs.lemmas.List.{get_or_default}
use Rattle.std.proofs.lemmas.List.Elements.{All-nil, All-cons}
use Rattle.std.proofs.lemmas.Option.{slice_get_within}
use Rattle.auto_core.specs.Automaton.{HasRepeat}
use Rattle.auto_core.specs.Outcome.{At}
use Rattle.auto_core.proofs.PathLemmas.{Contains-here, Contains-later, Contains-cons_cases, none_in_nil}
use Rattle.auto_core.proofs.MemberLemmas.{Rises}
use Rattle.auto_laws.proofs.PumpingLemmas.{pigeonhole}
use Rattle.auto_ops.proofs.SightLemmas.{at_one, place_of}

module _ {X Y : Type 0} (R : X → Y → Type 0) (ys : List Y) where
  -- the places of what the things answer to
  abbrev Linked : List X → List ℕ → Type 0
  Linked [] [] = Unit {0}
  Linked [] (p ∷ ps) = ⊥
  Linked (x ∷ xs) [] = ⊥
  Linked (x ∷ xs) (p ∷ ps) = ((y : Y) × At ys p y × R x y) × Linked xs ps

  linked : (xs : List X) → ((x : X) → Contains xs x → (y : Y) × Contains ys y × R x y) → (ps : List ℕ) × (length ps ≡ length xs) × All (λ p. p < length ys) ps × Linked xs ps
  linked [] each = ([], refl, All-nil (λ p. p < length ys), tt)
  linked (x ∷ xs) each =
      let (y, y_in, r) = each x (Contains-here x x xs refl) in
      let (p, at_p) = place_of ys y y_in in
      let (ps, len, below, rest) = linked xs (λ z h. each z (Contains-later x z xs h)) in
      (p ∷ ps, ap (λ n. suc n) len, All-cons (λ p. p < length ys) p ps (slice_get_within ys p y at_p) below, ((y, at_p, r), rest))

  linked_at : (xs : List X) (ps : List ℕ) → Linked xs ps → (i : ℕ) (d : X) → i < length xs → (y : Y) × At ys (get_or ps i 0) y × R (get_or xs i d) y
  linked_at [] ps l i d lt = absurd (omega arith)
  linked_at (x ∷ xs) [] l i d lt = absurd l
  linked_at (x ∷ xs) (p ∷ ps) (here, rest) zero d lt = here
  linked_at (x ∷ xs) (p ∷ ps) (here, rest) (suc i) d lt = linked_at xs ps rest i d (omega arith)

  -- things that stand once, each with an answer that no other has, are no more than the answers
  pub no_more : ((x z : X) (y : Y) → R x y → R z y → x ≡ z) → (xs : List X) → (HasRepeat xs → ⊥) → ((x : X) → Contains xs x → (y : Y) × Contains ys y × R x y) → length xs ≤ length ys
  no_more tells xs once each = elim (cases_lt (length ys) (length xs)) [
    | inr fine ↦ fine
    | inl more ↦
        let (ps, len, below, link) = linked xs each in
        let (i, j, lt, j_in, same) = pigeonhole (length ys) ps (omega arith) below in
        let i_near : i < length xs = omega arith in
        let j_near : j < length xs = omega arith in
        let apart : i ≡ j → ⊥ = λ e. omega arith in
        absurd (once (
          i,
          j,
          apart,
          i_near,
          j_near,
          λ d.
              let (y, at_y, r) = linked_at xs ps link i d i_near in
              let (z, at_z, q) = linked_at xs ps link j d j_near in
              let P : ℕ → Type 0 = λ n. At ys n z in
              let e : y ≡ z = at_one ys (get_or ps i 0) y z at_y (subst P (sym (same 0)) at_z) in
              let Q : Y → Type 0 = λ u. R (get_or xs i d) u in
              tells (get_or xs i d) (get_or xs j d) z (subst Q e r) q,
        ))
  ]

-- ---- in order

-- of two places of a list that rises, the earlier one is related to the later one
pub rises_at : {X : Type 0} (R : X → X → Type 0) (xs : List X) → Rises R xs → (i j : ℕ) (d : X) → i < j → j < length xs → R (get_or xs i d) (get_or xs j d)
rises_at R [] up i j d lt j_in = absurd (omega arith)
rises_at R (x ∷ xs) up i zero d lt j_in = absurd (omega arith)
rises_at R (x ∷ xs) up zero (suc j) d lt j_in = up.0 (get_or xs j d) (j, omega arith, get_or_default xs j (get_or xs j d) d (omega arith))
rises_at R (x ∷ xs) up (suc i) (suc j) d lt j_in = rises_at R xs up.1 i j d (omega arith) (omega arith)

onto : {X : Type 0} (x z : X) (l : List X) → (x ≡ z) ⊎ Contains l z → Contains (x ∷ l) z
onto x z l (inl e) = Contains-here x z l e
onto x z l (inr h) = Contains-later x z l h

module _ {X : Type 0} (R : X → X → Type 0) (joins : (x y z : X) → R x y → R y z → R x z) (cases : (x y : X) → R x y ⊎ (x ≡ y) ⊎ R y x) where
  -- a list in order with the same members
  abbrev IsInOrder : (X → Type 0) → ℕ → Type 0
  IsInOrder P n = (l : List X) × Rises R l × ((z : X) → Contains l z ↔ P z) × (length l ≤ n)

  one_more : (x : X) (ys : List X) → Rises R ys → IsInOrder (λ z. (x ≡ z) ⊎ Contains ys z) (suc (length ys))
  one_more x [] up = (x ∷ [], (λ z h. absurd (none_in_nil z h), tt), λ z. (λ h. Contains-cons_cases x z [] h, λ h. onto x z [] h), omega arith)
  one_more x (y ∷ ys) up = elim (cases x y) [
    | inl lower ↦ (
      x ∷ y ∷ ys,
      (λ z h. elim (Contains-cons_cases y z ys h) [ inl e ↦ subst (λ u. R x u) e lower | inr far ↦ joins x y z lower (up.0 z far) ], up),
      λ z. (λ h. Contains-cons_cases x z (y ∷ ys) h, λ h. onto x z (y ∷ ys) h),
      omega arith,
    )
    | inr other ↦ elim other [
      | inl same ↦ (
        y ∷ ys,
        up,
        λ z. (λ h. inr h, λ h. elim h [ inl e ↦ Contains-here y z ys (sym same ∙ e) | inr there ↦ there ]),
        omega arith,
      )
      | inr upper ↦
          let (l, rises, members, len) = one_more x ys up.1 in (
            y ∷ l,
            (λ z h. elim ((members z).0 h) [ inl e ↦ subst (λ u. R y u) e upper | inr far ↦ up.0 z far ], rises),
            λ z. (
              λ h. elim (Contains-cons_cases y z l h) [
                | inl e ↦ inr (Contains-here y z ys e)
                | inr far ↦ elim ((members z).0 far) [ inl e ↦ inl e | inr there ↦ inr (Contains-later y z ys there) ]
              ],
              λ h. elim h [
                | inl e ↦ Contains-later y z l ((members z).1 (inl e))
                | inr there ↦ elim (Contains-cons_cases y z ys there) [
                  | inl e ↦ Contains-here y z l e
                  | inr far ↦ Contains-later y z l ((members z).1 (inr far))
                ]
              ],
            ),
            omega arith,
          )
    ]
  ]

  pub in_order : (xs : List X) → (l : List X) × Rises R l × ((z : X) → Contains l z ↔ Contains xs z) × (length l ≤ length xs)
  in_order [] = ([], tt, λ z. (λ h. h, λ h. h), omega arith)
  in_order (x ∷ xs) =
      let (l, rises, members, len) = in_order xs in
      let (more, up, has, size) = one_more x l rises in (
        more,
        up,
        λ z. (
          λ h. elim ((has z).0 h) [ inl e ↦ Contains-here x z xs e | inr far ↦ Contains-later x z xs ((members z).0 far) ],
          λ h. elim (Contains-cons_cases x z xs h) [ inl e ↦ (has z).1 (inl e) | inr far ↦ (has z).1 (inr ((members z).1 far)) ],
        ),
        omega arith,
      )
