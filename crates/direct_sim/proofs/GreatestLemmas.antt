-- The greatest forward relation, and when it is a preorder.
use Rattle.std.proofs.Common.{◌≡◌, ℕ, ◌≤◌, inl, inr, Bool, true, false, cond, ◌==◌, List, [], ◌∷◌, ◌++◌, refl, sym, ap, ◌∙◌, subst, arith}
use Rattle.std.proofs.lemmas.Bool.{eqb-true, eq-eqb}
use Rattle.std.proofs.lemmas.List.Elements.{Contains-append_left, Contains-append_right, Contains-append_cases}
use Rattle.auto_core.proofs.PathLemmas.{Contains-here, Contains-later, Contains-cons_cases, none_in_nil}
use Rattle.auto_core.proofs.MoveLemmas.{move_in_range}
use Rattle.auto_core.specs.Automaton.{Automaton, IsAutomaton, Moves}
use Rattle.auto_core.specs.Run.{Path}
use Rattle.auto_core.specs.Game.{MatchesForward, Answers, Round, Holds, ArePairsBelow, StableForward}
use Rattle.look_game.proofs.SameLemmas.{same_below, same_holds, same_has}
use Rattle.auto_laws.proofs.AppliedLemmas.{followed_forward}
use Rattle.direct_sim.specs.Preorders.{GreatestForwardIsOne, GreatestForwardIsFollowed, GreatestFollowsMoves, GreatestForwardIsReflexive, GreatestIsPreorder}

pub greatest_is_one : GreatestForwardIsOne
greatest_is_one A k S T s t p q = (λ h. t.has_each S s.in_range s.stable p q h, λ h. s.has_each T t.in_range t.stable p q h)

pub greatest_is_followed : GreatestForwardIsFollowed
greatest_is_followed A k S some s p q close = followed_forward A k S some s.stable p q close

-- each path is answered by itself
answered_by_itself :
    (A : Automaton) → IsAutomaton A → (p a : ℕ) (w ps : List ℕ) → Path A p (a ∷ w) ps → Answers (Moves A) (MatchesForward A A) (Holds (same_below A.states)) p (a ∷ w) ps
answered_by_itself A valid p a w [] path = absurd path
answered_by_itself A valid p a w (r ∷ ps) (move, rest) = (r, move, λ h. h, inl (same_has A.states r (move_in_range A valid p a r move).1))

same_is_stable : (A : Automaton) (k : ℕ) → IsAutomaton A → 1 ≤ k → StableForward A k (same_below A.states)
same_is_stable A k valid some p q h =
    let is = same_holds A.states p q h in
    let P : ℕ → Type 0 = λ x. MatchesForward A A p x × Round (Moves A) (Moves A) (MatchesForward A A) k (Holds (same_below A.states)) p x in
    subst P is.0 (λ x. x, round)
  where
    round : Round (Moves A) (Moves A) (MatchesForward A A) k (Holds (same_below A.states)) p p
    round [] ps path may = absurd (elim may [ inl e ↦ omega arith | inr short ↦ let lt = short.0 in omega arith ])
    round (a ∷ w) ps path may = answered_by_itself A valid p a w ps path

pub greatest_is_reflexive : GreatestForwardIsReflexive
greatest_is_reflexive A k S valid some s p lt = s.has_each (same_below A.states) below (same_is_stable A k valid some) p p (same_has A.states p lt)
  where
    below : ArePairsBelow A.states A.states (same_below A.states)
    below p q h = let is = same_holds A.states p q h in let lt = is.1 in let e = is.0 in (lt, omega arith)

-- the pairs that two steps along the list lead to
steps_from : ℕ × ℕ → List (ℕ × ℕ) → List (ℕ × ℕ)
steps_from x [] = []
steps_from x (y ∷ ys) = cond (x.1 == y.0) ((x.0, y.1) ∷ steps_from x ys) (steps_from x ys)

two_steps : List (ℕ × ℕ) → List (ℕ × ℕ) → List (ℕ × ℕ)
two_steps [] ys = []
two_steps (x ∷ xs) ys = steps_from x ys ++ two_steps xs ys

from_holds : (x : ℕ × ℕ) (ys : List (ℕ × ℕ)) (p r : ℕ) → Holds (steps_from x ys) p r → (x.0 ≡ p) × Holds ys x.1 r
unfolding steps_from
from_holds x [] p r h = absurd (none_in_nil (p, r) h)
from_holds x (y ∷ ys) p r h = by_test (λ c. from_holds x ys p r c) (x.1 == y.0) refl h
  where
    by_test : (Holds (steps_from x ys) p r → (x.0 ≡ p) × Holds ys x.1 r) → (b : Bool) → (x.1 == y.0) ≡ b → Holds (cond b ((x.0, y.1) ∷ steps_from x ys) (steps_from x ys)) p r → (x.0 ≡ p) × Holds (y ∷ ys) x.1 r
    by_test rest true is c = elim (Contains-cons_cases (x.0, y.1) (p, r) (steps_from x ys) c) [
      | inl e ↦
          let left : x.0 ≡ p = ap (λ (z : ℕ × ℕ). z.0) e in
          let right : y.1 ≡ r = ap (λ (z : ℕ × ℕ). z.1) e in
          let mid : x.1 ≡ y.0 = eqb-true x.1 y.0 is in
          (left, Contains-here y (x.1, r) ys (ap (λ z. (z, y.1)) (sym mid) ∙ ap (λ z. (x.1, z)) right))
      | inr later ↦ ((rest later).0, Contains-later y (x.1, r) ys (rest later).1)
    ]
    by_test rest false is c = ((rest c).0, Contains-later y (x.1, r) ys (rest c).1)

from_has : (x : ℕ × ℕ) (ys : List (ℕ × ℕ)) (r : ℕ) → Holds ys x.1 r → Holds (steps_from x ys) x.0 r
unfolding steps_from
from_has x [] r h = absurd (none_in_nil (x.1, r) h)
from_has x (y ∷ ys) r h = elim (Contains-cons_cases y (x.1, r) ys h) [
  | inl e ↦
      let mid : x.1 ≡ y.0 = sym (ap (λ (z : ℕ × ℕ). z.0) e) in
      let right : y.1 ≡ r = ap (λ (z : ℕ × ℕ). z.1) e in
      let P : Bool → Type 0 = λ b. Holds (cond b ((x.0, y.1) ∷ steps_from x ys) (steps_from x ys)) x.0 r in
      subst P (sym (eq-eqb x.1 y.0 mid)) (Contains-here (x.0, y.1) (x.0, r) (steps_from x ys) (ap (λ z. (x.0, z)) right))
  | inr later ↦ more (x.1 == y.0) (from_has x ys r later)
]
  where
    more : (b : Bool) → Holds (steps_from x ys) x.0 r → Holds (cond b ((x.0, y.1) ∷ steps_from x ys) (steps_from x ys)) x.0 r
    more true c = Contains-later (x.0, y.1) (x.0, r) (steps_from x ys) c
    more false c = c

two_hold : (xs ys : List (ℕ × ℕ)) (p r : ℕ) → Holds (two_steps xs ys) p r → (q : ℕ) × Holds xs p q × Holds ys q r
unfolding two_steps
two_hold [] ys p r h = absurd (none_in_nil (p, r) h)
two_hold (x ∷ xs) ys p r h = elim (Contains-append_cases (steps_from x ys) (two_steps xs ys) (p, r) h) [
  | inl here ↦ let is = from_holds x ys p r here in (x.1, Contains-here x (p, x.1) xs (ap (λ z. (z, x.1)) is.0), is.1)
  | inr later ↦ let rest = two_hold xs ys p r later in (rest.0, Contains-later x (p, rest.0) xs rest.1, rest.2)
]

two_have : (xs ys : List (ℕ × ℕ)) (p q r : ℕ) → Holds xs p q → Holds ys q r → Holds (two_steps xs ys) p r
unfolding two_steps
two_have [] ys p q r h k = absurd (none_in_nil (p, q) h)
two_have (x ∷ xs) ys p q r h k = elim (Contains-cons_cases x (p, q) xs h) [
  | inl e ↦
      let left : x.0 ≡ p = ap (λ (z : ℕ × ℕ). z.0) e in
      let right : q ≡ x.1 = sym (ap (λ (z : ℕ × ℕ). z.1) e) in
      Contains-append_left (steps_from x ys) (two_steps xs ys) (p, r)
      (subst (λ z. Holds (steps_from x ys) z r) left (from_has x ys r (subst (λ z. Holds ys z r) right k)))
  | inr later ↦ Contains-append_right (steps_from x ys) (two_steps xs ys) (p, r) (two_have xs ys p q r later k)
]

-- two rounds of one move, one after the other
two_are_stable : (A : Automaton) (S : List (ℕ × ℕ)) → StableForward A 1 S → StableForward A 1 (two_steps S S)
two_are_stable A S stable p r h =
    let mid = two_hold S S p r h in
    let q = mid.0 in
    let first = stable p q mid.1 in
    let second = stable q r mid.2 in
    (λ x. second.0 (first.0 x), round q first.1 second.1)
  where
    round : (q : ℕ) → Round (Moves A) (Moves A) (MatchesForward A A) 1 (Holds S) p q → Round (Moves A) (Moves A) (MatchesForward A A) 1 (Holds S) q r → Round (Moves A) (Moves A) (MatchesForward A A) 1 (Holds (two_steps S S)) p r
    round q one two [] ps path may = absurd (elim may [ inl e ↦ omega arith | inr short ↦ let lt = short.0 in omega arith ])
    round q one two (a ∷ w) [] path may = absurd path
    round q one two (a ∷ w) (s ∷ ps) path may =
        let answer : Answers (Moves A) (MatchesForward A A) (Holds S) q (a ∷ []) (s ∷ []) = one (a ∷ []) (s ∷ []) (path.0, tt) (inl refl) in
        let held : Holds S s answer.0 = elim answer.3 [ inl is ↦ is | inr more ↦ absurd more ] in
        let next : Answers (Moves A) (MatchesForward A A) (Holds S) r (a ∷ []) (answer.0 ∷ []) = two (a ∷ []) (answer.0 ∷ []) (answer.1, tt) (inl refl) in
        let then : Holds S answer.0 next.0 = elim next.3 [ inl is ↦ is | inr more ↦ absurd more ] in
        (next.0, next.1, λ x. next.2 (answer.2 x), inl (two_have S S s answer.0 next.0 held then))

pub greatest_is_preorder : GreatestIsPreorder
greatest_is_preorder A S valid s = record {
  in_range = s.in_range;
  reflexive = greatest_is_reflexive A 1 S valid (omega arith) s;
  transitive = λ p q r h k. s.has_each (two_steps S S) below (two_are_stable A S s.stable) p r (two_have S S p q r h k);
}
  where
    below : ArePairsBelow A.states A.states (two_steps S S)
    below p r h = let mid = two_hold S S p r h in ((s.in_range p mid.0 mid.1).0, (s.in_range mid.0 r mid.2).1)

pub greatest_follows_moves : GreatestFollowsMoves
greatest_follows_moves A S s p q held [] [] path = ([], tt, tt)
greatest_follows_moves A S s p q held [] (r ∷ ps) path = absurd path
greatest_follows_moves A S s p q held (a ∷ w) [] path = absurd path
greatest_follows_moves A S s p q held (a ∷ w) (r ∷ ps) path =
    let answer : Answers (Moves A) (MatchesForward A A) (Holds S) q (a ∷ []) (r ∷ []) = (s.stable p q held).1 (a ∷ []) (r ∷ []) (path.0, tt) (inl refl) in
    let here : Holds S r answer.0 = elim answer.3 [ inl is ↦ is | inr more ↦ absurd more ] in
    let rest = greatest_follows_moves A S s r answer.0 here w ps path.1 in
    (answer.0 ∷ rest.0, (answer.1, rest.1), (here, rest.2))
