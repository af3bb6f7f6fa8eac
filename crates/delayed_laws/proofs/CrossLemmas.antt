-- Delayed relations from relations across.
use Rattle.std.proofs.Common.{◌≡◌, ℕ, Option, None, Some, List, [], ◌∷◌, Contains, if◌then◌else◌, refl, sym, ap, ◌∙◌, subst, inl, inr, arith}
use Rattle.std.proofs.lemmas.Bool.{cases_Bool}
use Rattle.auto_core.specs.Automaton.{Automaton, IsAccepting, is_accepting, Moves}
use Rattle.auto_core.specs.Game.{Answers, MatchesForward, Holds, StableAcross}
use Rattle.auto_core.proofs.PathLemmas.{accepting_from_test, test_from_accepting}
use Rattle.auto_core.proofs.MemberLemmas.{map_has, map_from}
use Rattle.delayed_game.specs.Across.{HoldsPlacePair, HasPlacePairRank, IsRightAcross}
use Rattle.delayed_game.proofs.CanLemmas.{none_is_some, some_is}
use Rattle.delayed_laws.specs.Across.{zero_if_accepting, ranked_cross, CrossRelationsAreDelayed}

abbrev cross_pair : Automaton → ℕ × ℕ → ℕ × ℕ × Option ℕ
cross_pair A pair = (pair.0, pair.1, zero_if_accepting A pair.0)

held_from : (A : Automaton) (S : List (ℕ × ℕ)) (p q : ℕ) (o : Option ℕ) → Contains (ranked_cross A S) (p, q, o) → Holds S p q × (zero_if_accepting A p ≡ o)
held_from A S p q o h =
    let (pair, has, e) = map_from (cross_pair A) S (p, q, o) h in
    let same : pair ≡ (p, q) = ap (λ (x : ℕ × ℕ × Option ℕ). (x.0, x.1)) e in
    let left : pair.0 ≡ p = ap (λ (x : ℕ × ℕ × Option ℕ). x.0) e in
    let rank : zero_if_accepting A pair.0 ≡ o = ap (λ (x : ℕ × ℕ × Option ℕ). x.2) e in
    (subst (λ x. Contains S x) same has, sym (ap (zero_if_accepting A) left) ∙ rank)

held_to : (A : Automaton) (S : List (ℕ × ℕ)) (p q : ℕ) → Holds S p q → HoldsPlacePair (ranked_cross A S) p q
held_to A S p q h = (zero_if_accepting A p, map_has (cross_pair A) S (p, q) h)

rank_zero : (A : Automaton) (p : ℕ) → IsAccepting A p → zero_if_accepting A p ≡ Some 0
rank_zero A p h = ap (λ b. if b then Some 0 else None) (test_from_accepting A p h)

rank_is_zero : (A : Automaton) (p r : ℕ) → zero_if_accepting A p ≡ Some r → IsAccepting A p × (r ≡ 0)
rank_is_zero A p r e = elim (cases_Bool (is_accepting A p)) [
  | inl t ↦ (accepting_from_test A p t, some_is (zero_if_accepting A p) r 0 e (ap (λ b. if b then Some 0 else None) t))
  | inr f ↦ absurd (none_is_some (zero_if_accepting A p) r (ap (λ b. if b then Some 0 else None) f) e)
]

has_zero : (A : Automaton) (S : List (ℕ × ℕ)) (p q : ℕ) → Holds S p q → IsAccepting A p → HasPlacePairRank (ranked_cross A S) p q 0
has_zero A S p q h here = subst (λ o. Contains (ranked_cross A S) (p, q, o)) (rank_zero A p here) (map_has (cross_pair A) S (p, q) h)

cross_right : (A B : Automaton) (S : List (ℕ × ℕ)) → StableAcross A B 1 S → IsRightAcross A B (ranked_cross A S)
cross_right A B S stable = record {
  answers = λ p q a p' held move.
      let h = held_from A S p q held.0 held.1 in
      let answer : Answers (Moves B) (MatchesForward A B) (Holds S) q (a ∷ []) (p' ∷ []) = (stable p q h.0).1 (a ∷ []) (p' ∷ []) (move, tt) (inl refl) in
      let next : Holds S p' answer.0 = elim answer.3 [ inl h ↦ h | inr none ↦ absurd none ] in
      (answer.0, answer.1, held_to A S p' answer.0 next);
  ranked = λ p q held here. (0, has_zero A S p q (held_from A S p q held.0 held.1).0 here);
  at_zero = λ p q held. let h = held_from A S p q (Some 0) held in (stable p q h.0).0 (rank_is_zero A p 0 h.1).0;
  above_zero = λ p q r a p' held some move. let e = (rank_is_zero A p r (held_from A S p q (Some r) held).1).1 in absurd (omega arith);
}

pub cross_is_delayed : CrossRelationsAreDelayed
cross_is_delayed A B S stable = (cross_right A B S stable, (λ p q. (λ held. (held_from A S p q held.0 held.1).0, held_to A S p q)), has_zero A S)
