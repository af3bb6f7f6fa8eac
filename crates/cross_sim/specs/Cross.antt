-- The greatest cross relation of two automata, and the inclusion that it shows.
use Rattle.std.specs.Prelude.{ℕ, ◌+◌, ◌≤◌, List}
use Rattle.auto_core.specs.Automaton.{Automaton, IsAutomaton}
use Rattle.auto_core.specs.Accept.{Includes}
use Rattle.auto_core.specs.declared.parts.Mode.{Mode}
use Rattle.auto_core.specs.Game.{Holds, IsGreatestAcross}
use Rattle.cross_sim.specs.Sides.{Raises, Lowers}

-- The pairs are those of the greatest list that is stable across A and B, with B's states numbered
-- after A's.
pub record IsGreatestSideBySide (A B : Automaton) (k : ℕ) (R : List (ℕ × ℕ)) : Type 0 where
  pub across : List (ℕ × ℕ)
  pub is_greatest : IsGreatestAcross A B k across
  pub pairs : Raises A.states across R

-- Among the pairs those that lead into B's states, numbered after A's, are those of the greatest
-- list that is stable across A and B.
pub record HoldsGreatestAcross (A B : Automaton) (k : ℕ) (R : List (ℕ × ℕ)) : Type 0 where
  pub across : List (ℕ × ℕ)
  pub is_greatest : IsGreatestAcross A B k across
  pub pairs : Lowers A.states across R

-- If it holds the pair of the initial states, B accepts what A accepts.
abbrev pub CrossIncludes : Type 0
CrossIncludes =
    (A B : Automaton) (k : ℕ) (R : List (ℕ × ℕ)) → IsAutomaton B → 1 ≤ k
    → IsGreatestSideBySide A B k R → Holds R A.initial (A.states + B.initial) →
    (mode : Mode) → Includes A B mode
