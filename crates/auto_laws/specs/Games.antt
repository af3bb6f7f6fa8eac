-- The laws of stable relations: the closure of one relates p to q only if each path from p is
-- followed from q.
use Rattle.std.specs.Prelude.{◌≡◌, ℕ, ◌⊎◌, ◌<◌, ◌≤◌, List, ◌∷◌}
use Rattle.auto_core.specs.Automaton.{Automaton, Moves, IsAutomaton}
use Rattle.auto_core.specs.Run.{PathBy, Path, end_of}
use Rattle.auto_core.specs.Accept.{Includes}
use Rattle.auto_core.specs.Game.{BackwardMoves, MatchesForward, MatchesBackward, AllMatched, Stable, ArePairsBelow, Chain, Close, Strict, Holds, IsWithin, StableForward, StableBackward, StableAcross}
use Rattle.auto_core.specs.declared.parts.Mode.{Mode}

-- A path from q on the word, matched at each place with the one through ps.
abbrev pub IsFollowed : (ℕ → ℕ → ℕ → Type 0) → (ℕ → ℕ → Type 0) → ℕ → List ℕ → List ℕ → Type 0
IsFollowed M ok q w ps = (qs : List ℕ) × PathBy M q w qs × AllMatched ok ps qs

-- Forward: the closure of a stable list relates p to q only if q matches p and each path from p is
-- followed from q.
abbrev pub FollowedForward : Type 0
FollowedForward =
    (A : Automaton) (k : ℕ) (S : List (ℕ × ℕ)) → 1 ≤ k → StableForward A k S → (p q : ℕ)
    → Close (Holds S) p q →
    MatchesForward A A p q
    × ((w ps : List ℕ) → Path A p w ps → IsFollowed (Moves A) (MatchesForward A A) q w ps)

-- Backward, by the moves backward.
abbrev pub FollowedBackward : Type 0
FollowedBackward =
    (A : Automaton) (k : ℕ) (S : List (ℕ × ℕ)) → 1 ≤ k → StableBackward A k S → (p q : ℕ)
    → Close (Holds S) p q →
    MatchesBackward A A p q
    × ((w ps : List ℕ) → PathBy (BackwardMoves A) p w ps
    → IsFollowed (BackwardMoves A) (MatchesBackward A A) q w ps)

-- Backward, by paths of the automaton: each path that ends in p has one on the same word that ends
-- in q, matched at each place, the first too. So if the one begins in the initial state, the other
-- does.
abbrev pub FollowedToTheEnd : Type 0
FollowedToTheEnd =
    (A : Automaton) (k : ℕ) (S : List (ℕ × ℕ)) → 1 ≤ k → StableBackward A k S → (p q : ℕ)
    → Close (Holds S) p q →
    (s : ℕ) (w ps : List ℕ) → Path A s w ps → end_of s ps ≡ p →
    (t : ℕ) × (qs : List ℕ) × Path A t w qs × (end_of t qs ≡ q)
    × AllMatched (MatchesBackward A A) (s ∷ ps) (t ∷ qs)

-- Forward at lookahead 1: each path from p is followed from q move by move, the closure relating
-- the states at each place.
abbrev pub FollowedMoveByMove : Type 0
FollowedMoveByMove =
    (A : Automaton) (S : List (ℕ × ℕ)) → StableForward A 1 S → (p q : ℕ) → Close (Holds S) p q →
    (w ps : List ℕ) → Path A p w ps → IsFollowed (Moves A) (Close (Holds S)) q w ps

-- Backward at lookahead 1 too.
abbrev pub FollowedMoveByMoveBackward : Type 0
FollowedMoveByMoveBackward =
    (A : Automaton) (S : List (ℕ × ℕ)) → StableBackward A 1 S → (p q : ℕ) → Close (Holds S) p q →
    (w ps : List ℕ) → PathBy (BackwardMoves A) p w ps
    → IsFollowed (BackwardMoves A) (Close (Holds S)) q w ps

-- Across two automata: a stable list relates p to q only if q matches p and each path from p in A
-- is followed from q in B.
abbrev pub FollowedAcross : Type 0
FollowedAcross =
    (A B : Automaton) (k : ℕ) (S : List (ℕ × ℕ)) → 1 ≤ k → StableAcross A B k S → (p q : ℕ)
    → Holds S p q →
    MatchesForward A B p q
    × ((w ps : List ℕ) → Path A p w ps → IsFollowed (Moves B) (MatchesForward A B) q w ps)

-- So if it relates the initial states, B accepts what A accepts.
abbrev pub AcrossIncludes : Type 0
AcrossIncludes =
    (A B : Automaton) (k : ℕ) (S : List (ℕ × ℕ)) → IsAutomaton B → 1 ≤ k → StableAcross A B k S
    → Holds S A.initial B.initial → (mode : Mode) → Includes A B mode

-- The closure of a list relates each number to itself, goes on from what it relates, and is inside
-- each transitive list that has the list inside.
pub record IsLeastClosure (S : List (ℕ × ℕ)) : Type 0 where
  pub reflexive : (p : ℕ) → Close (Holds S) p p
  pub transitive : (p q r : ℕ) → Close (Holds S) p q → Close (Holds S) q r → Close (Holds S) p r
  pub has_pairs : (p q : ℕ) → Holds S p q → Close (Holds S) p q
  pub least : (T : List (ℕ × ℕ)) → IsWithin S T
      → ((p q r : ℕ) → Holds T p q → Holds T q r → Holds T p r) → (p q : ℕ) → Close (Holds S) p q
      → (p ≡ q) ⊎ Holds T p q

-- That holds of each list.
abbrev pub ClosureIsLeast : Type 0
ClosureIsLeast = (S : List (ℕ × ℕ)) → IsLeastClosure S

-- For pairs of numbers below n the closure needs fewer than n steps.
abbrev pub ClosureIsShort : Type 0
ClosureIsShort =
    (n : ℕ) (S : List (ℕ × ℕ)) → ArePairsBelow n n S → (p q : ℕ) → p < n → Close (Holds S) p q
    → (m : ℕ) × (m < n) × Chain (Holds S) m p q

-- And fewer than n steps of its strict part come one after another.
abbrev pub StrictStepsAreFew : Type 0
StrictStepsAreFew =
    (n : ℕ) (S : List (ℕ × ℕ)) → ArePairsBelow n n S → (m p q : ℕ) → p < n
    → Chain (Strict (Close (Holds S))) m p q → m < n

-- The closure of a list that is stable forward at lookahead 1 is stable so too.
abbrev pub ClosureStaysStable : Type 0
ClosureStaysStable =
    (A : Automaton) (S : List (ℕ × ℕ)) → StableForward A 1 S
    → Stable (Moves A) (Moves A) (MatchesForward A A) 1 (Close (Holds S))

-- Backward too.
abbrev pub ClosureStaysStableBackward : Type 0
ClosureStaysStableBackward =
    (A : Automaton) (S : List (ℕ × ℕ)) → StableBackward A 1 S
    → Stable (BackwardMoves A) (BackwardMoves A) (MatchesBackward A A) 1 (Close (Holds S))
