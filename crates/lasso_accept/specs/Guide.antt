-- Where the rest of a word leads, place by place.
use Rattle.std.specs.Prelude.{◌≡◌, ◌↔◌, ℕ, ◌+◌, ◌*◌, ◌<◌, Bool, true, List, ◌++◌, length, slice_index}
use Rattle.auto_core.specs.Automaton.{Automaton, Moves}
use Rattle.auto_core.specs.Run.{Run, Path, end_of, some_accepting}
use Rattle.auto_core.specs.Rows.{HasBit, HasCell}
use Rattle.lasso_accept.specs.Plane.{chosen}

-- For each place of the word, and for its end, a row of states. In `any` the last row is the
-- target; each other row has the states from which a move with the letter at that place leads into
-- the next row. In `flagged` are those from which an accepting state is passed on the way.
pub record IsGuide (A : Automaton) (w target : List ℕ) (width : ℕ)
    (any flagged : List ℕ) : Type 0 where
  pub any_len : length any ≡ (length w + 1) * width
  pub flagged_len : length flagged ≡ (length w + 1) * width
  pub any_steps : (i p : ℕ) → i < length w → p < A.states
      → HasCell any width i p
      ↔ ((r : ℕ) × Moves A p (slice_index w i) r × HasCell any width (i + 1) r)
  pub flagged_steps :
      (i p : ℕ)
      → i < length w
      → p < A.states
      → HasCell flagged width i p
      ↔ ((r : ℕ) × Moves A p (slice_index w i) r
      × HasCell (chosen A any flagged r) width (i + 1) r)
  pub any_ends : (p : ℕ) → p < A.states → HasCell any width (length w) p ↔ HasBit target p
  pub flagged_ends : (p : ℕ) → p < A.states → HasCell flagged width (length w) p → ⊥

-- A run on the word leads from p into the target, past an accepting state where that is asked for.
pub record LeadsToTarget (A : Automaton) (p : ℕ) (w target : List ℕ) (asked : Bool) : Type 0 where
  pub end : ℕ
  pub flag : Bool
  pub run : Run A p w end flag
  pub lands : HasBit target end
  pub passes : asked ≡ true → flag ≡ true

-- The states of a path on the word from p have been appended; it ends in the target, and has passed
-- an accepting state where that was asked for.
pub record IsSpelled (A : Automaton) (p : ℕ) (w target : List ℕ) (asked : Bool) (old new : List ℕ)
    (end : ℕ) : Type 0 where
  pub states : List ℕ
  pub is : new ≡ old ++ states
  pub path : Path A p w states
  pub ends : end_of p states ≡ end
  pub lands : HasBit target end
  pub passes : asked ≡ true → some_accepting A states ≡ true
