-- The greatest right delayed relation between the states of two automata.
use Rattle.std.specs.Prelude.{◌≡◌, ℕ, ◌<◌, ◌≤◌, ◌↔◌, Option, Contains}
use Rattle.auto_core.specs.Automaton.{Automaton, IsAutomaton}
use Rattle.delayed_game.specs.Across.{RankedPlacePairs, HoldsPlacePair, HasPlacePairRank, AreWithin, IsRightAcross}
use Rattle.delayed_laws.specs.Across.{IsDelayedSimulation}

-- No pair stands there in two ways, with two ranks or with one and without.
abbrev pub HasPairsOnce : RankedPlacePairs → Type 0
HasPairsOnce X =
    (p q : ℕ) (o m : Option ℕ) → Contains X (p, q, o) → Contains X (p, q, m) → o ≡ m

-- It is right, holds each pair of states that some right list holds, and gives each pair of states
-- that some right list ranks the least rank that any of them gives it.
pub record IsGreatestDelayedAcross (A B : Automaton) (X : RankedPlacePairs) : Type 0 where
  pub in_range : AreWithin A.states B.states X
  pub once : HasPairsOnce X
  pub right : IsRightAcross A B X
  pub has_each : (Y : RankedPlacePairs) → IsRightAcross A B Y → (p q : ℕ) → p < A.states
      → q < B.states → HoldsPlacePair Y p q → HoldsPlacePair X p q
  pub least :
      (Y : RankedPlacePairs) → IsRightAcross A B Y → (p q s : ℕ) → p < A.states → q < B.states
      → HasPlacePairRank Y p q s → (r : ℕ) × HasPlacePairRank X p q r × (r ≤ s)

-- There is a delayed simulation of A by B.
abbrev pub IsDelayedSimulated : Automaton → Automaton → Type 0
IsDelayedSimulated A B = (X : RankedPlacePairs) × IsDelayedSimulation A B X

-- The greatest right list holds the pair of the initial states just where there is one.
abbrev pub GreatestDecides : Type 0
GreatestDecides =
    (A B : Automaton) (X : RankedPlacePairs) → IsAutomaton A → IsAutomaton B
    → IsGreatestDelayedAcross A B X
    → HoldsPlacePair X A.initial B.initial ↔ IsDelayedSimulated A B

-- Two greatest lists have the same pairs with the same ranks.
abbrev pub GreatestIsOne : Type 0
GreatestIsOne =
    (A B : Automaton) (X Y : RankedPlacePairs) → IsGreatestDelayedAcross A B X
    → IsGreatestDelayedAcross A B Y
    → (p q : ℕ) (o : Option ℕ) → Contains X (p, q, o) ↔ Contains Y (p, q, o)
