-- The delayed game with one announced letter, that of the move to be answered: the word of each
-- triple is empty.
use Rattle.std.specs.Prelude.{◌≡◌, ℕ, ◌<◌, ◌≤◌, ◌↔◌, Option, Some, List, [], map, Contains}
use Rattle.auto_core.specs.Automaton.{Automaton, Moves, IsAccepting, IsAutomaton}
use Rattle.auto_core.specs.Delayed.{RankedTriples, AreTriplesOf, IsRight, IsGreatestDelayed, AreStateRelated}

-- Pairs of states, each with a rank or without one.
abbrev pub RankedPairs : Type 0
RankedPairs = List (ℕ × ℕ × Option ℕ)

-- The list holds the pair, with a rank or without one.
abbrev pub HoldsRanked : RankedPairs → ℕ → ℕ → Type 0
HoldsRanked X p q = (rank : Option ℕ) × Contains X (p, q, rank)

-- The list holds the pair with this rank.
abbrev pub PairHasRank : RankedPairs → ℕ → ℕ → ℕ → Type 0
PairHasRank X p q r = Contains X (p, q, Some r)

-- The pairs and ranks are right: each move of a left state is answered; a pair has a rank if its
-- left state is accepting; at rank 0 the right state is accepting; and at a greater rank each move
-- is answered with a lesser one.
pub record AreRightPairs (A : Automaton) (X : RankedPairs) : Type 0 where
  pub answers : (p q a p' : ℕ) → HoldsRanked X p q → Moves A p a p'
      → (q' : ℕ) × Moves A q a q' × HoldsRanked X p' q'
  pub ranked : (p q : ℕ) → HoldsRanked X p q → IsAccepting A p → (r : ℕ) × PairHasRank X p q r
  pub at_zero : (p q : ℕ) → PairHasRank X p q 0 → IsAccepting A q
  pub above_zero :
      (p q r a p' : ℕ)
      → PairHasRank X p q r
      → 0 < r
      → Moves A p a p'
      → (q' s : ℕ) × Moves A q a q' × PairHasRank X p' q' s × (s < r)

-- Both states of each pair are below this number.
abbrev pub AreRankedBelow : ℕ → RankedPairs → Type 0
AreRankedBelow states X = (p q : ℕ) → HoldsRanked X p q → (p < states) × (q < states)

-- The greatest delayed relation of pairs: it is right, holds each pair that some right list holds,
-- and gives each pair that some such list ranks the least rank that any of them gives it.
pub record AreGreatestPairs (A : Automaton) (X : RankedPairs) : Type 0 where
  pub in_range : AreRankedBelow A.states X
  pub once : (p q : ℕ) (o m : Option ℕ) → Contains X (p, q, o) → Contains X (p, q, m) → o ≡ m
  pub right : AreRightPairs A X
  pub has_each : (Y : RankedPairs) → AreRankedBelow A.states Y → AreRightPairs A Y → (p q : ℕ)
      → HoldsRanked Y p q → HoldsRanked X p q
  pub least :
      (Y : RankedPairs) → AreRankedBelow A.states Y → AreRightPairs A Y
      → (p q s : ℕ) → PairHasRank Y p q s → (r : ℕ) × PairHasRank X p q r × (r ≤ s)

-- The triple of this pair, with the empty word.
abbrev pub triple_of_pair : ℕ × ℕ × Option ℕ → ℕ × List ℕ × ℕ × Option ℕ
triple_of_pair x = (x.0, [], x.1, x.2)

-- Each list of triples of the game with one announced letter is one of pairs.
abbrev pub OneLetterTriplesArePairs : Type 0
OneLetterTriplesArePairs =
    (states labels : ℕ) (X : RankedTriples)
    → AreTriplesOf states labels 1 X
    → (Y : RankedPairs) × (X ≡ map triple_of_pair Y)

-- And its triples are right exactly where the pairs are.
abbrev pub OneLetterIsPairs : Type 0
OneLetterIsPairs =
    (A : Automaton) (Y : RankedPairs) → IsAutomaton A
    → IsRight A (map triple_of_pair Y) ↔ AreRightPairs A Y

-- They are the greatest delayed relation exactly where the pairs are.
abbrev pub OneLetterGreatestIsOfPairs : Type 0
OneLetterGreatestIsOfPairs =
    (A : Automaton) (Y : RankedPairs) → IsAutomaton A
    → IsGreatestDelayed A 1 (map triple_of_pair Y) ↔ AreGreatestPairs A Y

-- And their state relation is that of the pairs.
abbrev pub OneLetterRelatesPairs : Type 0
OneLetterRelatesPairs =
    (labels : ℕ) (Y : RankedPairs) (p q : ℕ)
    → AreStateRelated labels 1 (map triple_of_pair Y) p q ↔ HoldsRanked Y p q
