-- What is asked of each pair of a delayed simulation that is given.
use Rattle.std.specs.Prelude.{◌≡◌, ℕ, zero, suc, ◌<◌, Option, None, Some, Contains}
use Rattle.auto_core.specs.Automaton.{Automaton, IsAccepting}
use Rattle.delayed_game.specs.Across.{RankedPlacePairs, HoldsPlacePair, HasPlacePairRank}
use Rattle.delayed_game.specs.Settling.{AnswersAll}
use Rattle.delayed_laws.specs.declared.parts.DelayedPair.{DelayedPair}

-- Both parts of the pair are states.
abbrev pub IsOfStates : Automaton → Automaton → DelayedPair → Type 0
IsOfStates A B x = (x.left < A.states) × (x.right < B.states)

-- The pair has a rank if its left state is accepting, and at rank 0 its right state is accepting.
pub record HasRightRank (A B : Automaton) (x : DelayedPair) : Type 0 where
  pub ranked : IsAccepting A x.left → (r : ℕ) × (x.rank ≡ Some r)
  pub at_zero : x.rank ≡ Some 0 → IsAccepting B x.right

-- The list has the pair with a rank below r.
abbrev pub HasRankBelow : RankedPlacePairs → ℕ → ℕ → ℕ → Type 0
HasRankBelow X r p q = (s : ℕ) × HasPlacePairRank X p q s × (s < r)

-- The pair keeps the rule of answers: its rank is right, and the right state answers each move of
-- the left one with a pair of the list, where it has a rank above 0 with one of lesser rank.
pub record KeepsAnswers (A B : Automaton) (X : RankedPlacePairs) (x : DelayedPair) : Type 0 where
  pub rank : HasRightRank A B x
  pub answers : AnswersAll A B (HoldsPlacePair X) x.left x.right
  pub above_zero : (r : ℕ) → x.rank ≡ Some r → 0 < r
      → AnswersAll A B (HasRankBelow X r) x.left x.right

-- There is no bound, or the rank is below it.
abbrev pub IsRankBelow : Option ℕ → Option ℕ → Type 0
IsRankBelow rank None = Unit {0}
IsRankBelow None (Some r) = ⊥
IsRankBelow (Some s) (Some r) = s < r

-- The list has the pair, with a rank below the bound if there is one.
abbrev pub HoldsBelow : RankedPlacePairs → Option ℕ → ℕ → ℕ → Type 0
HoldsBelow X bound p q = (o : Option ℕ) × Contains X (p, q, o) × IsRankBelow o bound

-- What the rank of an answer has to be below: the pair's own rank, if it has one above 0.
abbrev pub bound_of : Option ℕ → Option ℕ
bound_of None = None
bound_of (Some zero) = None
bound_of (Some (suc r)) = Some (suc r)
