-- What is left when the game is over.
use Rattle.std.specs.Prelude.{ℕ, List}
use Rattle.auto_core.specs.Automaton.{Automaton, IsAccepting}
use Rattle.auto_core.specs.Game.{Holds}
use Rattle.delayed_game.specs.Across.{RankedPlacePairs, HoldsPlacePair, AreWithin, IsRightAcross}
use Rattle.delayed_game.specs.Pairings.{Pairing}
use Rattle.delayed_game.specs.Settling.{AnswersAll, HasSomeRank, TakesAway}
use Rattle.delayed_game.specs.Boards.{AreLeastRanks}

-- The relation has the pairs of each right list of pairs of places and states.
abbrev pub HasEachRight : Automaton → Automaton → (ℕ → ℕ → Type 0) → Type 0
HasEachRight L A R =
    (X : RankedPlacePairs) → AreWithin L.states A.states X → IsRightAcross L A X → (x q : ℕ)
    → HoldsPlacePair X x q → R x q

-- The pairs that are left lost none of a right relation; each move is answered by one of them; the
-- table has their least ranks, and one for each whose place is accepting.
pub record IsPlayed (L A : Automaton) (old new : Pairing) (ranks : List ℕ) : Type 0 where
  pub takes : TakesAway L A old new
  pub answered : (x q : ℕ) → Holds new.pairs x q → AnswersAll L A (Holds new.pairs) x q
  pub least : AreLeastRanks L A (Holds new.pairs) ranks
  pub ranked : (x q : ℕ) → IsAccepting L x → Holds new.pairs x q → HasSomeRank ranks A.states x q
