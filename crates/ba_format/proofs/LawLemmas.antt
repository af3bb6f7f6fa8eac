-- Ordered lists with the same members are equal, so an automaton is determined by its parts.
use Rattle.std.proofs.Common.{◌≡◌, ℕ, zero, suc, ◌<◌, List, [], ◌∷◌, get_or, Contains, ◌⊎◌, inl, inr, refl, sym, subst, ◌∙◌, arith}
use Rattle.std.specs.List.{AllPairs}
use Rattle.std.proofs.lemmas.List.{get_or_default}
use Rattle.std.proofs.lemmas.List.Kept.{AllPairs-from_increasing}
use Rattle.std.proofs.lemmas.List.Sorted.{IsPermutation-sym, Contains-permutation}
use Rattle.auto_core.specs.declared.parts.Trans.{Trans}
use Rattle.auto_core.specs.Automaton.{Automaton, IsAutomaton, IsBefore, trans}
use Rattle.auto_core.specs.Build.{IsBuilt}
use Rattle.auto_core.proofs.Order.{IsBefore-trans}
use Rattle.ba_format.specs.Joining.{IsRelabelled}
use Rattle.ba_format.specs.Laws.{ReadsAsOne, JoinsAsOne}

pub contains_cases : {X : Type 0} (x : X) (xs : List X) (z : X) → Contains (x ∷ xs) z → (x ≡ z) ⊎ Contains xs z
contains_cases x xs z (zero, lt, e) = inl e
contains_cases x xs z (suc k, lt, e) = inr (k, omega arith, e)

pub contains_later : {X : Type 0} (x : X) (xs : List X) (z : X) → Contains xs z → Contains (x ∷ xs) z
contains_later x xs z (k, lt, e) = (suc k, omega arith, e)

pub contains_first : {X : Type 0} (x : X) (xs : List X) → Contains (x ∷ xs) x
contains_first x xs = (zero, omega arith, refl)

module _ {X : Type 0} (R : X → X → Type 0) (never : (x : X) → R x x → ⊥) (chain : (x y z : X) → R x y → R y z → R x z) where
  tail_ordered : (x : X) (xs : List X) → AllPairs R (x ∷ xs) → AllPairs R xs
  tail_ordered x xs h i j d lt short = h (suc i) (suc j) d (omega arith) (omega arith)

  -- the first is before each later one
  first_before : (x : X) (xs : List X) (z : X) → AllPairs R (x ∷ xs) → Contains xs z → R x z
  first_before x xs z h (k, lt, e) = subst (R x) e (h zero (suc k) z (omega arith) (omega arith))

  -- two ordered lists with the same members are equal
  pub ordered_same : (xs ys : List X) → AllPairs R xs → AllPairs R ys → ((z : X) → Contains xs z → Contains ys z) → ((z : X) → Contains ys z → Contains xs z) → xs ≡ ys
  ordered_same [] [] hx hy there back = refl
  ordered_same [] (y ∷ ys) hx hy there back = absurd (none y (back y (contains_first y ys)))
    where
      none : (z : X) → Contains [] z → ⊥
      none z (k, lt, e) = absurd (omega arith)
  ordered_same (x ∷ xs) [] hx hy there back = absurd (none x (there x (contains_first x xs)))
    where
      none : (z : X) → Contains [] z → ⊥
      none z (k, lt, e) = absurd (omega arith)
  ordered_same (x ∷ xs) (y ∷ ys) hx hy there back =
      let first : x ≡ y =
      elim (contains_cases y ys x (there x (contains_first x xs))) [
        | inl e ↦ sym e
        | inr later ↦ elim (contains_cases x xs y (back y (contains_first y ys))) [
          | inl e ↦ e
          | inr latter ↦ absurd (never x (chain x y x (first_before x xs y hx latter) (first_before y ys x hy later)))
        ]
      ] in
      let rest = ordered_same xs ys (tail_ordered x xs hx) (tail_ordered y ys hy)
      (λ z c. elim (contains_cases y ys z (there z (contains_later x xs z c))) [
        | inl e ↦ absurd (never z (subst (λ w. R w z) (first ∙ e) (first_before x xs z hx c)))
        | inr d ↦ d
      ])
      (λ z c. elim (contains_cases x xs z (back z (contains_later y ys z c))) [
        | inl e ↦ absurd (never z (subst (λ w. R w z) (sym first ∙ e) (first_before y ys z hy c)))
        | inr d ↦ d
      ]) in
      λ i. first i ∷ rest i

not_before_itself : (t : Trans) → IsBefore t t → ⊥
not_before_itself t h = elim h [
  | inl lt ↦ omega arith
  | inr more ↦ elim more [ inl p ↦ omega (arith, p.1) | inr p ↦ omega (arith, p.2) ]
]

transitions_ordered : (A : Automaton) → IsAutomaton A → AllPairs IsBefore A.transitions
transitions_ordered A v i j d lt short =
    let P = λ (t : Trans). λ (u : Trans). IsBefore t u in
    subst (λ t. IsBefore t (get_or A.transitions j d)) (get_or_default A.transitions i (trans 0 0 0) d (omega arith))
    (subst (IsBefore (get_or A.transitions i (trans 0 0 0))) (get_or_default A.transitions j (trans 0 0 0) d short) (v.in_order i j lt short))

-- an automaton is determined by its parts
pub built_once : (states labels initial : ℕ) (transitions : List Trans) (accepting : List ℕ) (A B : Automaton)
    → IsBuilt states labels initial transitions accepting A → IsBuilt states labels initial transitions accepting B → A ≡ B
built_once states labels initial transitions accepting A B a b =
    let same_transitions = ordered_same IsBefore not_before_itself IsBefore-trans A.transitions B.transitions (transitions_ordered A a.valid) (transitions_ordered B b.valid)
    (λ z c. Contains-permutation transitions B.transitions z b.transitions_given (Contains-permutation A.transitions transitions z (IsPermutation-sym transitions A.transitions a.transitions_given) c))
    (λ z c. Contains-permutation transitions A.transitions z a.transitions_given (Contains-permutation B.transitions transitions z (IsPermutation-sym transitions B.transitions b.transitions_given) c)) in
    let same_accepting = ordered_same (λ x y. x < y) (λ x h. omega arith) (λ x y z h g. omega arith) A.accepting B.accepting
    (AllPairs-from_increasing A.accepting a.valid.accepting_in_order) (AllPairs-from_increasing B.accepting b.valid.accepting_in_order)
    (λ z c. Contains-permutation accepting B.accepting z b.accepting_given (Contains-permutation A.accepting accepting z (IsPermutation-sym accepting A.accepting a.accepting_given) c))
    (λ z c. Contains-permutation accepting A.accepting z a.accepting_given (Contains-permutation B.accepting accepting z (IsPermutation-sym accepting B.accepting b.accepting_given) c)) in
    λ i. record {
      states = (a.states_given ∙ sym b.states_given) i;
      labels = (a.labels_given ∙ sym b.labels_given) i;
      initial = (a.initial_given ∙ sym b.initial_given) i;
      transitions = same_transitions i;
      accepting = same_accepting i;
    }

pub reads_as_one : ReadsAsOne
reads_as_one text limits one two a b =
    λ i. record {
      auto = built_once _ _ _ _ _ one.auto two.auto a.reading.auto b.reading.auto i;
      names = (a.reading.names ∙ sym b.reading.names) i;
      labels = (a.reading.labels ∙ sym b.reading.labels) i;
    }

pub joins_as_one : JoinsAsOne
joins_as_one first second one two a b =
    let labels = a.labels ∙ sym b.labels in
    λ i. record {
      first = built_once _ _ _ _ _ one.first two.first (subst (λ l. IsRelabelled first.auto first.labels l one.first) labels a.first) b.first i;
      second = built_once _ _ _ _ _ one.second two.second (subst (λ l. IsRelabelled second.auto second.labels l one.second) labels a.second) b.second i;
      labels = labels i;
    }
