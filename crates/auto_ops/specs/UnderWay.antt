-- The intersection as far as it is made.
use Rattle.std.specs.Prelude.{◌≡◌, ℕ, ◌<◌, ◌≤◌, ◌⊎◌, List, [], ◌∷◌, length, All, take}
use Rattle.auto_core.specs.Automaton.{Automaton}
use Rattle.auto_core.specs.Outcome.{At}
use Rattle.auto_core.specs.declared.parts.Mode.{Mode}
use Rattle.auto_core.specs.declared.parts.Trans.{Trans}
use Rattle.ba_format.specs.Sight.{first_seen}
use Rattle.auto_ops.specs.declared.product_states.ProductState.{ProductState}
use Rattle.auto_ops.specs.Intersection.{ProductMove, same_product_state, seen_by, start_of, moves_from, IsProductReached, AreNumberedBySight}
use Rattle.auto_ops.specs.declared.limits.TheConstants.{MOST_STATES, MOST_TRANSITIONS}

-- The transition is the move under the numbers of the product states.
abbrev pub IsMoveNumbered : List ProductState → Trans → ProductMove → Type 0
IsMoveNumbered product_states t m =
    At product_states t.source m.source × (t.label ≡ m.label) × At product_states t.target m.target

-- One by one the transitions are the moves.
abbrev pub AreMoves : List ProductState → List Trans → List ProductMove → Type 0
AreMoves product_states [] [] = Unit {0}
AreMoves product_states [] (m ∷ ms) = ⊥
AreMoves product_states (t ∷ ts) [] = ⊥
AreMoves product_states (t ∷ ts) (m ∷ ms) =
    IsMoveNumbered product_states t m × AreMoves product_states ts ms

-- Both parts of the product state are states.
abbrev pub IsInside : Automaton → Automaton → ProductState → Type 0
IsInside A B t = (t.first < A.states) × (t.second < B.states)

-- So far these moves were gone through: what they see are the product states, and they are the
-- transitions.
pub record IsUnderWay (A B : Automaton) (moves : List ProductMove)
    (product_states : List ProductState) (transitions : List Trans) : Type 0 where
  pub seen : product_states ≡ first_seen same_product_state (seen_by A B moves)
  pub numbered : AreMoves product_states transitions moves

-- These moves see too many product states, or are too many.
abbrev pub AreTooMany : Automaton → Automaton → List ProductMove → Type 0
AreTooMany A B moves =
    (MOST_STATES < length (first_seen same_product_state (seen_by A B moves)))
    ⊎ (MOST_TRANSITIONS < length moves)

-- No more product states and transitions than a result may have, and parts of the product states
-- that are states.
pub record IsRoomy (A B : Automaton) (product_states : List ProductState)
    (transitions : List Trans) : Type 0 where
  pub few : length product_states ≤ MOST_STATES
  pub few_transitions : length transitions ≤ MOST_TRANSITIONS
  pub inside : All (IsInside A B) product_states

-- Nothing was gone through: there is the start alone.
abbrev pub IsBegun : Automaton → Automaton → List ProductState → List Trans → Type 0
IsBegun A B product_states transitions = (product_states ≡ start_of A B ∷ []) × (transitions ≡ [])

-- The moves from the product states were gone through, and the product states are just the reached
-- ones in order.
pub record IsExplored (mode : Mode) (A B : Automaton) (product_states : List ProductState)
    (transitions : List Trans) : Type 0 where
  pub numbered : AreNumberedBySight mode A B product_states
  pub all : AreMoves product_states transitions (moves_from mode A B product_states)
  pub roomy : IsRoomy A B product_states transitions

-- The first `done` product states have been gone through, and all product states are reached.
pub record IsExploredUpto (mode : Mode) (A B : Automaton) (done : ℕ)
    (product_states : List ProductState) (transitions : List Trans) : Type 0 where
  pub within : done ≤ length product_states
  pub so_far : IsUnderWay A B (moves_from mode A B (take done product_states)) product_states
      transitions
  pub reached : All (IsProductReached mode A B) product_states
  pub roomy : IsRoomy A B product_states transitions
