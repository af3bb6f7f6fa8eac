-- The greatest backward relation and its closure.
use Rattle.std.specs.Prelude.{◌≡◌, ℕ, ◌<◌, ◌≤◌, ◌↔◌, List, ◌∷◌}
use Rattle.auto_core.specs.Automaton.{Automaton, IsAutomaton}
use Rattle.auto_core.specs.Run.{Path, PathBy, end_of}
use Rattle.auto_core.specs.Game.{BackwardMoves, MatchesBackward, AllMatched, Holds, Close, IsGreatestBackward}
use Rattle.bit_rel.specs.Relation.{Relation, IsClosed}
use Rattle.auto_laws.specs.Games.{IsFollowed}

-- The relation is the closure of the greatest backward relation on the automaton's states.
pub record IsGreatestBackwardClosed (A : Automaton) (k : ℕ) (R : Relation) : Type 0 where
  pub greatest : Relation
  pub on_states : greatest.size ≡ A.states
  pub is_greatest : IsGreatestBackward A k greatest.pairs
  pub closed : IsClosed greatest R

-- Two greatest backward relations at one lookahead hold the same pairs.
abbrev pub GreatestBackwardIsOne : Type 0
GreatestBackwardIsOne =
    (A : Automaton) (k : ℕ) (S T : List (ℕ × ℕ)) → IsGreatestBackward A k S
    → IsGreatestBackward A k T → (p q : ℕ) → Holds S p q ↔ Holds T p q

-- The closure of the greatest backward relation relates p to q only if q is accepting where p is
-- and initial where p is, and each path of the moves backward from p is followed from q by one on
-- the same word, accepting and initial wherever the first is.
abbrev pub GreatestBackwardIsFollowed : Type 0
GreatestBackwardIsFollowed =
    (A : Automaton) (k : ℕ) (S : List (ℕ × ℕ)) → 1 ≤ k → IsGreatestBackward A k S → (p q : ℕ)
    → Close (Holds S) p q →
    MatchesBackward A A p q
    × ((w ps : List ℕ) → PathBy (BackwardMoves A) p w ps
    → IsFollowed (BackwardMoves A) (MatchesBackward A A) q w ps)

-- So each path that ends in p has one on the same word that ends in q, accepting and initial
-- wherever the first is, its first state too.
abbrev pub GreatestReachesTheEnd : Type 0
GreatestReachesTheEnd =
    (A : Automaton) (k : ℕ) (S : List (ℕ × ℕ)) → 1 ≤ k → IsGreatestBackward A k S → (p q : ℕ)
    → Close (Holds S) p q →
    (s : ℕ) (w ps : List ℕ) → Path A s w ps → end_of s ps ≡ p →
    (t : ℕ) × (qs : List ℕ) × Path A t w qs × (end_of t qs ≡ q)
    × AllMatched (MatchesBackward A A) (s ∷ ps) (t ∷ qs)

-- The greatest backward relation relates each state to itself, at each lookahead.
abbrev pub GreatestBackwardIsReflexive : Type 0
GreatestBackwardIsReflexive =
    (A : Automaton) (k : ℕ) (S : List (ℕ × ℕ)) → IsAutomaton A → 1 ≤ k → IsGreatestBackward A k S
    → (p : ℕ) → p < A.states → Holds S p p
