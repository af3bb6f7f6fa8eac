-- The greatest forward relation at lookahead 1 relates each state to itself and goes on from what it relates.
use Rattle.std.proofs.Common.{◌≡◌, ℕ, ◌<◌, true, cond, ◌==◌, List, [], ◌∷◌, ◌++◌, map, Contains, sym, ap, ◌∙◌, subst, inl, inr, arith}
use Rattle.std.specs.List.{range_with_len}
use Rattle.std.proofs.lemmas.Bool.{cases_Bool, eqb-true, eq-eqb}
use Rattle.std.proofs.lemmas.List.FromFn.{get_or-map-range_with_len, length-map-range_with_len}
use Rattle.std.proofs.lemmas.List.Elements.{Contains-append_left, Contains-append_right, Contains-append_cases}
use Rattle.auto_core.specs.Automaton.{Automaton, IsAutomaton, Moves}
use Rattle.auto_core.specs.Run.{PathBy}
use Rattle.auto_core.specs.Game.{MatchesForward, MayShow, Answers, Stable, Holds, IsGreatestForward}
use Rattle.auto_core.proofs.PathLemmas.{Contains-cons_cases, Contains-here, Contains-later, none_in_nil}
use Rattle.auto_core.proofs.MoveLemmas.{move_in_range}
use Rattle.auto_laws.proofs.GraphLemmas.{move_answered}

-- Stable at lookahead 1, move by move.
stable_by_moves : (B : Automaton) (W : ℕ → ℕ → Type 0) → ((p q : ℕ) → W p q → MatchesForward B B p q) →
    ((p q a r : ℕ) → W p q → Moves B p a r → (s : ℕ) × Moves B q a s × W r s) →
    Stable (Moves B) (Moves B) (MatchesForward B B) 1 W
stable_by_moves B W matches goes p q held = (matches p q held, round)
  where
    round : (w ps : List ℕ) → PathBy (Moves B) p w ps → MayShow (Moves B) 1 p w ps → Answers (Moves B) (MatchesForward B B) W q w ps
    round [] [] path may = elim may [ inl e ↦ absurd (omega arith) | inr short ↦ let some = short.0 in absurd (omega arith) ]
    round [] (r ∷ ps) path may = absurd path
    round (a ∷ w) [] path may = absurd path
    round (a ∷ w) (r ∷ ps) path may = let one = goes p q a r held path.0 in (one.0, one.1, matches r one.0 one.2, inl one.2)

-- The pairs of each number below n with itself.
abbrev twins : ℕ → List (ℕ × ℕ)
twins n = map (λ p. (p, p)) (range_with_len 0 n)

twin_in : (n p : ℕ) → p < n → Holds (twins n) p p
twin_in n p lt = (p, subst (λ k. p < k) (sym (length-map-range_with_len (λ k. (k, k)) 0 n)) lt, get_or-map-range_with_len (λ k. (k, k)) 0 n p p (p, p) lt (omega arith))

twin_is : (n p q : ℕ) → Holds (twins n) p q → (p < n) × (q ≡ p)
twin_is n p q (k, lt, e) =
    let below : k < n = subst (λ m. k < m) (length-map-range_with_len (λ k. (k, k)) 0 n) lt in
    let pair : ◌≡◌ {A = ℕ × ℕ} (k, k) (p, q) = sym (get_or-map-range_with_len (λ m. (m, m)) 0 n k k (p, q) below (omega arith)) ∙ e in
    let first : k ≡ p = ap (λ (x : ℕ × ℕ). x.0) pair in
    let second : k ≡ q = ap (λ (x : ℕ × ℕ). x.1) pair in
    (omega arith, sym second ∙ first)

pub greatest_reflexive : (B : Automaton) (S : List (ℕ × ℕ)) → IsAutomaton B → IsGreatestForward B 1 S → (p : ℕ) → p < B.states → Holds S p p
greatest_reflexive B S valid greatest p lt =
    greatest.has_each (twins B.states)
    (λ r s held. let is = twin_is B.states r s held in (is.0, subst (λ k. k < B.states) (sym is.1) is.0))
    (stable_by_moves B (Holds (twins B.states))
    (λ r s held accepts. subst (λ k. Contains B.accepting k) (sym (twin_is B.states r s held).1) accepts)
    (λ r s a t held move.
    let is = twin_is B.states r s held in
    (t, subst (λ k. Moves B k a t) (sym is.1) move, twin_in B.states t (move_in_range B valid r a t move).1)))
    p p (twin_in B.states p lt)

-- The pairs of p with what the list relates q to, and the pairs that two lists relate one after the other.
abbrev through : ℕ → ℕ → List (ℕ × ℕ) → List (ℕ × ℕ)
through p q [] = []
through p q (x ∷ T) = cond (q == x.0) ((p, x.1) ∷ through p q T) (through p q T)

abbrev composed : List (ℕ × ℕ) → List (ℕ × ℕ) → List (ℕ × ℕ)
composed [] T = []
composed (x ∷ S) T = through x.0 x.1 T ++ composed S T

through_is : (p q : ℕ) (T : List (ℕ × ℕ)) (s r : ℕ) → Holds (through p q T) s r → (p ≡ s) × Holds T q r
through_is p q [] s r held = absurd (none_in_nil (s, r) held)
through_is p q (x ∷ T) s r held = elim (cases_Bool (q == x.0)) [
  | inl same ↦ elim (Contains-cons_cases (p, x.1) (s, r) (through p q T) (subst (λ b. Holds (cond b ((p, x.1) ∷ through p q T) (through p q T)) s r) same held)) [
    | inl e ↦ (ap (λ (y : ℕ × ℕ). y.0) e, Contains-here x (q, r) T (pair_is x q r (sym (eqb-true q x.0 same)) (ap (λ (y : ℕ × ℕ). y.1) e)))
    | inr later ↦ let more = through_is p q T s r later in (more.0, Contains-later x (q, r) T more.1)
  ]
  | inr other ↦
      let more = through_is p q T s r (subst (λ b. Holds (cond b ((p, x.1) ∷ through p q T) (through p q T)) s r) other held) in
      (more.0, Contains-later x (q, r) T more.1)
]
  where
    pair_is : (y : ℕ × ℕ) (a b : ℕ) → y.0 ≡ a → y.1 ≡ b → y ≡ (a, b)
    pair_is (c, d) a b e f = ap (λ k. (k, d)) e ∙ ap (λ k. (a, k)) f

in_through : (p q : ℕ) (T : List (ℕ × ℕ)) (r : ℕ) → Holds T q r → Holds (through p q T) p r
in_through p q [] r held = absurd (none_in_nil (q, r) held)
in_through p q (x ∷ T) r held = elim (Contains-cons_cases x (q, r) T held) [
  | inl e ↦
      let same : (q == x.0) ≡ true = eq-eqb q x.0 (sym (ap (λ (y : ℕ × ℕ). y.0) e)) in
      subst (λ b. Holds (cond b ((p, x.1) ∷ through p q T) (through p q T)) p r) (sym same)
      (Contains-here (p, x.1) (p, r) (through p q T) (ap (λ (y : ℕ × ℕ). (p, y.1)) e))
  | inr later ↦
      let more = in_through p q T r later in
      elim (cases_Bool (q == x.0)) [
        | inl same ↦ subst (λ b. Holds (cond b ((p, x.1) ∷ through p q T) (through p q T)) p r) (sym same) (Contains-later (p, x.1) (p, r) (through p q T) more)
        | inr other ↦ subst (λ b. Holds (cond b ((p, x.1) ∷ through p q T) (through p q T)) p r) (sym other) more
      ]
]

composed_is : (S T : List (ℕ × ℕ)) (p r : ℕ) → Holds (composed S T) p r → (q : ℕ) × Holds S p q × Holds T q r
composed_is [] T p r held = absurd (none_in_nil (p, r) held)
composed_is (x ∷ S) T p r held = elim (Contains-append_cases (through x.0 x.1 T) (composed S T) (p, r) held) [
  | inl here ↦ let is = through_is x.0 x.1 T p r here in (x.1, Contains-here x (p, x.1) S (ap (λ k. (k, x.1)) is.0), is.1)
  | inr later ↦ let more = composed_is S T p r later in (more.0, Contains-later x (p, more.0) S more.1, more.2)
]

in_composed : (S T : List (ℕ × ℕ)) (p q r : ℕ) → Holds S p q → Holds T q r → Holds (composed S T) p r
in_composed [] T p q r first second = absurd (none_in_nil (p, q) first)
in_composed (x ∷ S) T p q r first second = elim (Contains-cons_cases x (p, q) S first) [
  | inl e ↦
      let is : Holds (through p q T) p r = in_through p q T r second in
      Contains-append_left (through x.0 x.1 T) (composed S T) (p, r) (subst (λ (y : ℕ × ℕ). Holds (through y.0 y.1 T) p r) (sym e) is)
  | inr later ↦ Contains-append_right (through x.0 x.1 T) (composed S T) (p, r) (in_composed S T p q r later second)
]

pub greatest_transitive : (B : Automaton) (S : List (ℕ × ℕ)) → IsGreatestForward B 1 S → (p q r : ℕ) → Holds S p q → Holds S q r → Holds S p r
greatest_transitive B S greatest p q r first second =
    let both : List (ℕ × ℕ) = composed S S in
    greatest.has_each both
    (λ s t held.
    let is = composed_is S S s t held in
    ((greatest.in_range s is.0 is.1).0, (greatest.in_range is.0 t is.2).1))
    (stable_by_moves B (Holds both)
    (λ s t held accepts. let is = composed_is S S s t held in (greatest.stable is.0 t is.2).0 ((greatest.stable s is.0 is.1).0 accepts))
    (λ s t a u held move.
    let is = composed_is S S s t held in
    let one = move_answered B (Holds S) greatest.stable s is.0 a u is.1 move in
    let two = move_answered B (Holds S) greatest.stable is.0 t a one.0 is.2 one.1 in
    (two.0, two.1, in_composed S S u one.0 two.0 one.3 two.3)))
    p r (in_composed S S p q r first second)
