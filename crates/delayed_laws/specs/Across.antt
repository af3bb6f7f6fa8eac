-- What a right delayed relation between the states of two automata gives, and what gives one.
use Rattle.std.specs.Prelude.{ℕ, ◌<◌, ◌↔◌, Option, None, Some, List, map, if◌then◌else◌}
use Rattle.auto_core.specs.Automaton.{Automaton, IsAutomaton, IsAccepting, is_accepting}
use Rattle.auto_core.specs.Accept.{Includes}
use Rattle.auto_core.specs.Game.{Holds, StableAcross}
use Rattle.auto_core.specs.declared.parts.Mode.TheVariants.{Buchi}
use Rattle.delayed_game.specs.Across.{RankedPlacePairs, HoldsPlacePair, HasPlacePairRank, AreWithin, IsRightAcross}

-- A delayed simulation of A by B: the pairs and ranks are right, and the pair of the initial states
-- is among them.
pub record IsDelayedSimulation (A B : Automaton) (X : RankedPlacePairs) : Type 0 where
  pub starts : HoldsPlacePair X A.initial B.initial
  pub right : IsRightAcross A B X

-- Where there is one, B accepts each lasso that A accepts.
abbrev pub DelayedAcrossIncludes : Type 0
DelayedAcrossIncludes =
    (A B : Automaton) (X : RankedPlacePairs) → IsAutomaton B → IsDelayedSimulation A B X
    → Includes A B Buchi

-- Rank 0 where the state is accepting, and no rank elsewhere.
abbrev pub zero_if_accepting : Automaton → ℕ → Option ℕ
zero_if_accepting A p = if is_accepting A p then Some 0 else None

-- The pairs, each with this rank of its left state.
abbrev pub ranked_cross : Automaton → List (ℕ × ℕ) → RankedPlacePairs
ranked_cross A S = map (λ pair. (pair.0, pair.1, zero_if_accepting A pair.0)) S

-- A list of pairs that is stable across at lookahead 1 is right so, with the same pairs and rank 0
-- at each accepting left state.
abbrev pub CrossRelationsAreDelayed : Type 0
CrossRelationsAreDelayed =
    (A B : Automaton) (S : List (ℕ × ℕ)) → StableAcross A B 1 S
    → IsRightAcross A B (ranked_cross A S)
    × ((p q : ℕ) → HoldsPlacePair (ranked_cross A S) p q ↔ Holds S p q)
    × ((p q : ℕ) → Holds S p q → IsAccepting A p → HasPlacePairRank (ranked_cross A S) p q 0)

-- Y is the part of X whose pairs are of states: it is right, with the same ranks.
pub record IsPartInRange (A B : Automaton) (X Y : RankedPlacePairs) : Type 0 where
  pub right : IsRightAcross A B Y
  pub within : AreWithin A.states B.states Y
  pub pairs : (p q : ℕ) → p < A.states → q < B.states → HoldsPlacePair X p q → HoldsPlacePair Y p q
  pub ranks : (p q r : ℕ) → p < A.states → q < B.states → HasPlacePairRank X p q r
      → HasPlacePairRank Y p q r

-- A right list has such a part.
abbrev pub RightStaysInRange : Type 0
RightStaysInRange =
    (A B : Automaton) (X : RankedPlacePairs) → IsAutomaton A → IsAutomaton B → IsRightAcross A B X
    → (Y : RankedPlacePairs) × IsPartInRange A B X Y
