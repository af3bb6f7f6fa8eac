-- The greatest backward relation: paths by it, and that it relates each state to itself.
use Rattle.std.proofs.Common.{ℕ, ◌≤◌, inl, inr, List, [], ◌∷◌, subst, arith}
use Rattle.auto_core.proofs.MoveLemmas.{move_in_range}
use Rattle.auto_core.specs.Automaton.{Automaton, IsAutomaton}
use Rattle.auto_core.specs.Run.{PathBy}
use Rattle.auto_core.specs.Game.{BackwardMoves, MatchesBackward, Answers, Round, Holds, ArePairsBelow, StableBackward}
use Rattle.look_game.proofs.SameLemmas.{same_below, same_holds, same_has}
use Rattle.auto_laws.proofs.AppliedLemmas.{followed_backward, followed_to_the_end}
use Rattle.backward_sim.specs.Preorders.{GreatestBackwardIsOne, GreatestBackwardIsFollowed, GreatestReachesTheEnd, GreatestBackwardIsReflexive}

pub greatest_is_one : GreatestBackwardIsOne
greatest_is_one A k S T s t p q = (λ h. t.has_each S s.in_range s.stable p q h, λ h. s.has_each T t.in_range t.stable p q h)

pub greatest_is_followed : GreatestBackwardIsFollowed
greatest_is_followed A k S some s p q close = followed_backward A k S some s.stable p q close

pub greatest_reaches_the_end : GreatestReachesTheEnd
greatest_reaches_the_end A k S some s p q close = followed_to_the_end A k S some s.stable p q close

-- each path is answered by itself
answered_by_itself :
    (A : Automaton) → IsAutomaton A → (p a : ℕ) (w ps : List ℕ) → PathBy (BackwardMoves A) p (a ∷ w) ps → Answers (BackwardMoves A) (MatchesBackward A A) (Holds (same_below A.states)) p (a ∷ w) ps
answered_by_itself A valid p a w [] path = absurd path
answered_by_itself A valid p a w (r ∷ ps) (move, rest) = (r, move, (λ h. h, λ h. h), inl (same_has A.states r (move_in_range A valid r a p move).0))

same_is_stable : (A : Automaton) (k : ℕ) → IsAutomaton A → 1 ≤ k → StableBackward A k (same_below A.states)
same_is_stable A k valid some p q h =
    let is = same_holds A.states p q h in
    let P : ℕ → Type 0 = λ x. MatchesBackward A A p x × Round (BackwardMoves A) (BackwardMoves A) (MatchesBackward A A) k (Holds (same_below A.states)) p x in
    subst P is.0 ((λ x. x, λ x. x), round)
  where
    round : Round (BackwardMoves A) (BackwardMoves A) (MatchesBackward A A) k (Holds (same_below A.states)) p p
    round [] ps path may = absurd (elim may [ inl e ↦ omega arith | inr short ↦ let lt = short.0 in omega arith ])
    round (a ∷ w) ps path may = answered_by_itself A valid p a w ps path

pub greatest_is_reflexive : GreatestBackwardIsReflexive
greatest_is_reflexive A k S valid some s p lt = s.has_each (same_below A.states) below (same_is_stable A k valid some) p p (same_has A.states p lt)
  where
    below : ArePairsBelow A.states A.states (same_below A.states)
    below p q h = let is = same_holds A.states p q h in let lt = is.1 in let e = is.0 in (lt, omega arith)
