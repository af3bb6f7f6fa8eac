-- Lists that rise, within other lists.
use Rattle.std.proofs.Common.{◌≡◌, ℕ, ◌<◌, ◌≤◌, ◌⊎◌, inl, inr, List, [], ◌∷◌, ◌++◌, length, Contains, refl, sym, ap, ◌∙◌, subst, arith, length-append}
use Rattle.std.proofs.lemmas.List.Elements.{Contains-append_left, Contains-append_right, Contains-append_cases}
use Rattle.std.proofs.lemmas.Bool.{cases_eq}
use Rattle.auto_core.specs.Automaton.{trans}
use Rattle.auto_core.specs.declared.parts.Trans.{Trans}
use Rattle.auto_core.proofs.PathLemmas.{Contains-here, Contains-later, Contains-cons_cases, none_in_nil}
use Rattle.auto_core.proofs.MemberLemmas.{Rises}

-- the list in two parts, an element between them
split_at : {X : Type 0} (xs : List X) (y : X) → Contains xs y → (front back : List X) × (xs ≡ front ++ y ∷ back)
split_at [] y h = absurd (none_in_nil y h)
split_at {X} (x ∷ xs) y h = elim (Contains-cons_cases x y xs h) [
  | inl e ↦ ([], xs, ap (λ z. z ∷ xs) e)
  | inr later ↦ let (front, back, is) = split_at xs y later in (x ∷ front, back, ap (λ zs. x ∷ zs) is)
]

-- another element than the one between the parts is in one of them
without : {X : Type 0} (front back : List X) (y z : X) → (y ≡ z → ⊥) → Contains (front ++ y ∷ back) z → Contains (front ++ back) z
without front back y z apart h = elim (Contains-append_cases front (y ∷ back) z h) [
  | inl before ↦ Contains-append_left front back z before
  | inr behind ↦ elim (Contains-cons_cases y z back behind) [
    | inl e ↦ absurd (apart e)
    | inr later ↦ Contains-append_right front back z later
  ]
]

-- a list that rises has at most as many elements as one that has them all
pub few_rises : {X : Type 0} (R : X → X → Type 0) → ((x : X) → R x x → ⊥) → (ys xs : List X) → Rises R ys → ((z : X) → Contains ys z → Contains xs z) → length ys ≤ length xs
few_rises R irreflexive [] xs up within = omega arith
few_rises {X} R irreflexive (y ∷ ys) xs up within =
    let (front, back, is) = split_at xs y (within y (Contains-here y y ys refl)) in
    let rest : length ys ≤ length (front ++ back) = few_rises R irreflexive ys (front ++ back) up.1 (λ z h.
    without front back y z (λ e. irreflexive y (subst (λ x. R y x) (sym e) (up.0 z h))) (subst (λ l. Contains l z) is (within z (Contains-later y z ys h)))) in
    omega (arith, length-append front back, length-append front (y ∷ back), ap length is)

module _ {X : Type 0} (R : X → X → Type 0) (asymmetric : (x y : X) → R x y → R y x → ⊥) (cases : (x y : X) → (x ≡ y) ⊎ (x ≡ y → ⊥)) where
  -- of two lists that rise, one within the other, either they are one or the first has fewer elements
  pub same_or_fewer : (ys xs : List X) → Rises R ys → Rises R xs → ((z : X) → Contains ys z → Contains xs z) → (ys ≡ xs) ⊎ (length ys < length xs)
  same_or_fewer [] [] up ups within = inl refl
  same_or_fewer [] (x ∷ xs) up ups within = inr (omega arith)
  same_or_fewer (y ∷ ys) [] up ups within = absurd (none_in_nil y (within y (Contains-here y y ys refl)))
  same_or_fewer (y ∷ ys) (x ∷ xs) up ups within = elim (cases x y) [
    | inl e ↦ elim (same_or_fewer ys xs up.1 ups.1 (λ z h. elim (Contains-cons_cases x z xs (within z (Contains-later y z ys h))) [
      | inl f ↦ let loop : R y y = subst (λ w. R y w) (sym f ∙ e) (up.0 z h) in absurd (asymmetric y y loop loop)
      | inr later ↦ later
    ])) [
      | inl same ↦ inl (ap (λ z. z ∷ ys) (sym e) ∙ ap (λ zs. x ∷ zs) same)
      | inr lt ↦ inr (omega arith)
    ]
    | inr apart ↦
        let first : Contains xs y = elim (Contains-cons_cases x y xs (within y (Contains-here y y ys refl))) [ inl f ↦ absurd (apart f) | inr later ↦ later ] in
        let le : length (y ∷ ys) ≤ length xs = few_rises R (λ x h. asymmetric x x h h) (y ∷ ys) xs up (λ z h. elim (Contains-cons_cases x z xs (within z h)) [
          | inl f ↦ elim (Contains-cons_cases y z ys h) [
            | inl g ↦ absurd (apart (f ∙ sym g))
            | inr after ↦ absurd (asymmetric x y (ups.0 y first) (subst (λ w. R y w) (sym f) (up.0 z after)))
          ]
          | inr later ↦ later
        ]) in
        inr (omega arith)
  ]

-- two transitions are equal or not
pub trans_cases : (t u : Trans) → (t ≡ u) ⊎ (t ≡ u → ⊥)
trans_cases t u = elim (cases_eq t.source u.source) [
  | inl s ↦ elim (cases_eq t.label u.label) [
    | inl l ↦ elim (cases_eq t.target u.target) [
      | inl r ↦ inl (λ i. trans (s i) (l i) (r i))
      | inr apart ↦ inr (λ e. apart (ap (λ (x : Trans). x.target) e))
    ]
    | inr apart ↦ inr (λ e. apart (ap (λ (x : Trans). x.label) e))
  ]
  | inr apart ↦ inr (λ e. apart (ap (λ (x : Trans). x.source) e))
]

pub number_cases : (m n : ℕ) → (m ≡ n) ⊎ (m ≡ n → ⊥)
number_cases m n = elim (cases_eq m n) [ inl e ↦ inl e | inr apart ↦ inr (λ e. apart e) ]
