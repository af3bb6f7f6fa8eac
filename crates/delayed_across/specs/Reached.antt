-- The part of a delayed simulation that answers reach from the pair of the initial states.
use Rattle.std.specs.Prelude.{◌≡◌, ℕ, ◌<◌, ◌≤◌, ◌↔◌, Option, List, length, Contains}
use Rattle.auto_core.specs.Automaton.{Automaton, Moves}
use Rattle.auto_core.specs.Game.{Close}
use Rattle.delayed_game.specs.Across.{RankedPlacePairs}
use Rattle.delayed_laws.specs.declared.parts.DelayedPair.{DelayedPair}
use Rattle.delayed_laws.specs.Listed.{place_pairs, delayed_at, AreDelayedAscending}
use Rattle.delayed_across.specs.Answered.{HoldsBelow, bound_of}
use Rattle.delayed_across.specs.Listed.{IsNumberOf}

-- The first answer of q to the move by the letter a to y: the least state that q moves to by a and
-- that the list has with y, with a rank below the bound if there is one.
pub record IsFirstAnswer (B : Automaton) (X : RankedPlacePairs) (bound : Option ℕ)
    (q a y answer : ℕ) : Type 0 where
  pub move : Moves B q a answer
  pub held : HoldsBelow X bound y answer
  pub least : (s : ℕ) → Moves B q a s → HoldsBelow X bound y s → answer ≤ s

-- The pair with this number is that of y and the first answer.
pub record IsAnswerBy (B : Automaton) (pairs : List DelayedPair) (bound : Option ℕ)
    (q a y number : ℕ) : Type 0 where
  pub named : IsNumberOf pairs y (delayed_at pairs number).right number
  pub answer : IsFirstAnswer B (place_pairs pairs) bound q a y (delayed_at pairs number).right

-- A move of the pair with the number i has its first answer by the pair with the number j.
abbrev pub LeadsOn : Automaton → Automaton → List DelayedPair → ℕ → ℕ → Type 0
LeadsOn A B pairs i j =
    (a y : ℕ) × Moves A (delayed_at pairs i).left a y
    × IsAnswerBy B pairs (bound_of (delayed_at pairs i).rank) (delayed_at pairs i).right a y j

-- First answers lead from one of the pairs with these numbers to the pair with this number.
abbrev pub IsLedTo : Automaton → Automaton → List DelayedPair → List ℕ → ℕ → Type 0
IsLedTo A B pairs numbers j = (i : ℕ) × Contains numbers i × Close (LeadsOn A B pairs) i j

-- They lead from the pair of the initial states to the pair with this number.
abbrev pub IsReachedNumber : Automaton → Automaton → List DelayedPair → ℕ → Type 0
IsReachedNumber A B pairs j =
    (i : ℕ) × IsNumberOf pairs A.initial B.initial i × Close (LeadsOn A B pairs) i j

-- Of the pairs of the list the part has just those whose numbers are so, ascending.
pub record IsPartBy (so : ℕ → Type 0) (pairs part : List DelayedPair) : Type 0 where
  pub in_order : AreDelayedAscending part
  pub members : (x : DelayedPair) → Contains part x
      ↔ ((j : ℕ) × (j < length pairs) × (delayed_at pairs j ≡ x) × so j)

-- The part has just the pairs that are reached so.
abbrev pub IsReachedPart : Automaton → Automaton → List DelayedPair → List DelayedPair → Type 0
IsReachedPart A B pairs part = IsPartBy (IsReachedNumber A B pairs) pairs part
