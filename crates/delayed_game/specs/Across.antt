-- The delayed game of pairs from the states of one automaton, the places, to the states of another.
-- The game with announced letters is this game where a place is a left state with a word.
use Rattle.std.specs.Prelude.{ℕ, ◌<◌, Option, Some, List, Contains}
use Rattle.auto_core.specs.Automaton.{Automaton, Moves, IsAccepting}

-- Pairs of a place and a state, each with a rank or without one.
abbrev pub RankedPlacePairs : Type 0
RankedPlacePairs = List (ℕ × ℕ × Option ℕ)

-- The list holds the pair, with a rank or without one.
abbrev pub HoldsPlacePair : RankedPlacePairs → ℕ → ℕ → Type 0
HoldsPlacePair X x q = (rank : Option ℕ) × Contains X (x, q, rank)

-- The list holds the pair with this rank.
abbrev pub HasPlacePairRank : RankedPlacePairs → ℕ → ℕ → ℕ → Type 0
HasPlacePairRank X x q r = Contains X (x, q, Some r)

-- Each place is below m and each state below n.
abbrev pub AreWithin : ℕ → ℕ → RankedPlacePairs → Type 0
AreWithin m n X = (x q : ℕ) → HoldsPlacePair X x q → (x < m) × (q < n)

-- The pairs and ranks are right: each move of a place is answered; a pair has a rank if its place
-- is accepting; at rank 0 the right state is accepting; and at a greater rank each move is answered
-- with a lesser one.
pub record IsRightAcross (L A : Automaton) (X : RankedPlacePairs) : Type 0 where
  pub answers : (x q a y : ℕ) → HoldsPlacePair X x q → Moves L x a y
      → (q' : ℕ) × Moves A q a q' × HoldsPlacePair X y q'
  pub ranked : (x q : ℕ) → HoldsPlacePair X x q → IsAccepting L x
      → (r : ℕ) × HasPlacePairRank X x q r
  pub at_zero : (x q : ℕ) → HasPlacePairRank X x q 0 → IsAccepting A q
  pub above_zero :
      (x q r a y : ℕ)
      → HasPlacePairRank X x q r
      → 0 < r
      → Moves L x a y
      → (q' s : ℕ) × Moves A q a q' × HasPlacePairRank X y q' s × (s < r)
