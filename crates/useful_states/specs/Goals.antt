-- What is looked for from the goals back.
use Rattle.std.specs.Prelude.{ℕ}
use Rattle.auto_core.specs.Automaton.{Automaton}
use Rattle.auto_core.specs.Useful.{Reaches, IsGoal}
use Rattle.auto_core.specs.declared.parts.Mode.{Mode}

-- The state reaches a goal.
abbrev pub ComesToGoal : Automaton → Mode → ℕ → Type 0
ComesToGoal A mode q = (g : ℕ) × Reaches A q g × IsGoal A mode g
