-- Moves into a row of states.
use Rattle.std.specs.Prelude.{◌≡◌, ℕ, ◌+◌, ◌*◌, ◌/◌, ◌<◌, ◌≤◌, ◌↔◌, List, length}
use Rattle.std.specs.Int.{bit_at}
use Rattle.auto_core.specs.Automaton.{Automaton, Moves}
use Rattle.auto_core.specs.Rows.{HasBit, HasCell}

-- A move from q by the letter a leads to a state of the row.
abbrev pub LeadsTo : Automaton → ℕ → List ℕ → ℕ → Type 0
LeadsTo A a ends q = (q' : ℕ) × Moves A q a q' × HasBit ends q'

-- A move from q by the letter a leads to a state that has column j; the columns of state q are the
-- bits of the word at place q.
abbrev pub LeadsToColumn : Automaton → List ℕ → ℕ → ℕ → ℕ → Type 0
LeadsToColumn A words a j q = (q' : ℕ) × Moves A q a q' × HasCell words 1 q' j

-- A move from q by the letter a leads to a state of the set with the number k. Four neighbouring
-- states have sixteen sets, numbered one after another: of the lowest four digits each tells
-- whether one of the four is in the set.
abbrev pub LeadsToSet : Automaton → ℕ → ℕ → ℕ → Type 0
LeadsToSet A k a q = (i : ℕ) × (i < 4) × (bit_at k i ≡ 1) × Moves A q a (k / 16 * 4 + i)

-- A move from q by the letter a leads to a state of the row among four neighbouring states: fours
-- are numbered from the first states on.
abbrev pub LeadsToFour : Automaton → ℕ → List ℕ → ℕ → ℕ → Type 0
LeadsToFour A a ends four q =
    (q' : ℕ) × Moves A q a q' × HasBit ends q' × (four * 4 ≤ q') × (q' < (four + 1) * 4)

-- The table has a row for each set, with w words for each letter: they mark the states from which a
-- move by the letter leads to a state of the set.
pub record IsSetTable (A : Automaton) (w upto : ℕ) (sets : List ℕ) : Type 0 where
  pub len : length sets ≡ w * 256 * (A.labels * w)
  pub cells :
      (k a q : ℕ)
      → k < upto
      → a < A.labels
      → q < w * 64
      → HasCell sets (A.labels * w) k (a * w * 64 + q) ↔ LeadsToSet A k a q

-- The table of all sets, if there is any.
abbrev pub AreSetsIfAny : Automaton → ℕ → List ℕ → Type 0
AreSetsIfAny A w sets = ¬ (length sets ≡ 0) → IsSetTable A w (w * 256) sets
