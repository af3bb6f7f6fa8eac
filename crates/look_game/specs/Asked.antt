-- A pair that has to stay in the relation that is sought.
use Rattle.std.specs.Prelude.{ℕ, List, Option, Some, None}
use Rattle.auto_core.specs.Game.{Stable, Holds, ArePairsBelow}
use Rattle.look_game.specs.declared.asked.Pair.{Pair}

-- A pair has to stay, and the list has it not.
abbrev pub IsLost : List (ℕ × ℕ) → Option Pair → Type 0
IsLost S None = ⊥
IsLost S (Some pair) = Holds S pair.left pair.right → ⊥

-- A pair has to stay, and no stable list of pairs of states below n has it.
abbrev pub IsNeverKept : (ℕ → ℕ → ℕ → Type 0) → (ℕ → ℕ → Type 0) → ℕ → ℕ → Option Pair → Type 0
IsNeverKept M ok k n asked =
    (T : List (ℕ × ℕ)) → ArePairsBelow n n T → Stable M M ok k (Holds T) → IsLost T asked
