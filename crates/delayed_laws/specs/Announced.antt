-- The same with announced letters, where the left places are the states of A with the letters that
-- are known.
use Rattle.std.specs.Prelude.{ℕ, ◌<◌, ◌≤◌, List}
use Rattle.auto_core.specs.Automaton.{Automaton, IsAutomaton, Moves, IsAccepting}
use Rattle.auto_core.specs.Accept.{Includes}
use Rattle.auto_core.specs.Delayed.{Announces, IsTripleWord}
use Rattle.auto_core.specs.declared.parts.Mode.TheVariants.{Buchi}
use Rattle.delayed_game.specs.Across.{RankedPlacePairs, HoldsPlacePair, IsRightAcross}

-- P moves as A does with n announced letters: its place (p, b), for a word b of n - 1 letters, has
-- the moves of p by the first letter of b and a further letter, and is accepting where p is.
pub record ArePlacesOf (A P : Automaton) (n : ℕ) (place : ℕ → List ℕ → ℕ) : Type 0 where
  pub moves :
      (b : List ℕ) (p more a : ℕ) (c : List ℕ) (p' : ℕ)
      → IsTripleWord A.labels n b
      → more < A.labels
      → Announces b more a c
      → Moves A p a p'
      → Moves P (place p b) a (place p' c)
  pub accepting : (p : ℕ) (b : List ℕ) → IsTripleWord A.labels n b → IsAccepting A p
      → IsAccepting P (place p b)

-- Where a right relation of P's places and B's states holds the pair of the initial states with
-- each word of n - 1 letters, B accepts each lasso that A accepts.
abbrev pub DelayedPlacesInclude : Type 0
DelayedPlacesInclude =
    (A P B : Automaton) (n : ℕ) (place : ℕ → List ℕ → ℕ) (X : RankedPlacePairs)
    → IsAutomaton A
    → IsAutomaton B
    → 1 ≤ n
    → ArePlacesOf A P n place
    → IsRightAcross P B X
    → ((b : List ℕ) → IsTripleWord A.labels n b → HoldsPlacePair X (place A.initial b) B.initial)
    → Includes A B Buchi
