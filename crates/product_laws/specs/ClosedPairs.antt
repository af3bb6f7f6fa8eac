-- Closed pairs with ranks, some of which may have no right state.
use Rattle.std.specs.Prelude.{ℕ, ◌<◌, ◌≤◌, List, Contains}
use Rattle.auto_core.specs.Automaton.{Automaton, IsAutomaton, Moves}
use Rattle.product_laws.specs.declared.RankedPair.{RankedPair}
use Rattle.product_laws.specs.Ranked.{IsDeterministic, HasRank, HasPair, HasInitialPair, RankGoesOn, IsRankedProduct}
use Rattle.product_laws.specs.Reached.{GoesTo, IsReachedPair, MovesReachGoals}

-- The pairs are reached, the pair of the initial states is among them, with each move the pair that
-- it leads to is there, whether B has a move or not, and the ranks go on.
pub record AreClosedPairs (A B : Automaton) (pairs : List RankedPair) : Type 0 where
  pub starts : HasInitialPair A B pairs
  pub left : (x : RankedPair) → Contains pairs x → x.left < A.states
  pub right : (x : RankedPair) → Contains pairs x → x.right ≤ B.states
  pub reached : (x : RankedPair) → Contains pairs x → IsReachedPair A B x.left x.right
  pub moves : (x : RankedPair) → Contains pairs x → (a r : ℕ) → Moves A x.left a r
      → (s : ℕ) × GoesTo B x.right a s × HasPair pairs r s
  pub ranks : (x : RankedPair) → Contains pairs x → (a r s rank : ℕ) → Moves A x.left a r
      → GoesTo B x.right a s → HasRank pairs r s rank →
      RankGoesOn A B x.rank r s rank

-- Where each move of A leads on to an accepting state on a cycle, each of these pairs has a right
-- state, and they are a ranked product.
abbrev pub ClosedPairsAreProduct : Type 0
ClosedPairsAreProduct =
    (A B : Automaton) (pairs : List RankedPair)
    → IsAutomaton B
    → IsDeterministic B
    → MovesReachGoals A
    → AreClosedPairs A B pairs
    → IsRankedProduct A B pairs
