-- The greatest forward relation and its closure.
use Rattle.std.specs.Prelude.{◌≡◌, ℕ, ◌<◌, ◌≤◌, ◌↔◌, List}
use Rattle.auto_core.specs.Automaton.{Automaton, IsAutomaton, Moves}
use Rattle.auto_core.specs.Run.{Path}
use Rattle.auto_core.specs.Game.{MatchesForward, Holds, Close, IsGreatestForward}
use Rattle.bit_rel.specs.Relation.{Relation, IsClosed, IsPreorder}
use Rattle.auto_laws.specs.Games.{IsFollowed}

-- The relation is the closure of the greatest forward relation on the automaton's states.
pub record IsGreatestForwardClosed (A : Automaton) (k : ℕ) (R : Relation) : Type 0 where
  pub greatest : Relation
  pub on_states : greatest.size ≡ A.states
  pub is_greatest : IsGreatestForward A k greatest.pairs
  pub closed : IsClosed greatest R

-- Two greatest forward relations at one lookahead hold the same pairs.
abbrev pub GreatestForwardIsOne : Type 0
GreatestForwardIsOne =
    (A : Automaton) (k : ℕ) (S T : List (ℕ × ℕ)) → IsGreatestForward A k S → IsGreatestForward A k T
    → (p q : ℕ) → Holds S p q ↔ Holds T p q

-- The closure of the greatest forward relation relates p to q only if q is accepting where p is and
-- each path from p is followed from q by a path on the same word, accepting wherever the first is.
abbrev pub GreatestForwardIsFollowed : Type 0
GreatestForwardIsFollowed =
    (A : Automaton) (k : ℕ) (S : List (ℕ × ℕ)) → 1 ≤ k → IsGreatestForward A k S → (p q : ℕ)
    → Close (Holds S) p q →
    MatchesForward A A p q
    × ((w ps : List ℕ) → Path A p w ps → IsFollowed (Moves A) (MatchesForward A A) q w ps)

-- At lookahead 1 a path is followed move by move: the greatest relation holds the two states at
-- each place.
abbrev pub GreatestFollowsMoves : Type 0
GreatestFollowsMoves =
    (A : Automaton) (S : List (ℕ × ℕ)) → IsGreatestForward A 1 S → (p q : ℕ) → Holds S p q →
    (w ps : List ℕ) → Path A p w ps → IsFollowed (Moves A) (Holds S) q w ps

-- The greatest forward relation relates each state to itself, at each lookahead.
abbrev pub GreatestForwardIsReflexive : Type 0
GreatestForwardIsReflexive =
    (A : Automaton) (k : ℕ) (S : List (ℕ × ℕ)) → IsAutomaton A → 1 ≤ k → IsGreatestForward A k S
    → (p : ℕ) → p < A.states → Holds S p p

-- At lookahead 1 it is a preorder on the states.
abbrev pub GreatestIsPreorder : Type 0
GreatestIsPreorder =
    (A : Automaton) (S : List (ℕ × ℕ)) → IsAutomaton A → IsGreatestForward A 1 S
    → IsPreorder A.states S
