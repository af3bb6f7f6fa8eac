-- The coarsest bisimulation.
use Rattle.std.specs.Prelude.{◌≡◌, ℕ, ◌<◌, List, length}
use Rattle.auto_core.specs.Automaton.{Automaton}
use Rattle.auto_core.specs.Quotient.{class_of, AreClasses}
use Rattle.map_laws.specs.Bisimulation.{IsBisimulation}

-- Each bisimulation relates only states of one class.
abbrev pub IsCoarser : Automaton → List ℕ → Type 0
IsCoarser A classes =
    (other : List ℕ) → IsBisimulation A other → (p q : ℕ) → p < A.states → q < A.states
    → class_of other p ≡ class_of other q → class_of classes p ≡ class_of classes q

-- The classes, one for each state, are a bisimulation, and the coarsest one.
pub record IsCoarsest (A : Automaton) (classes : List ℕ) : Type 0 where
  pub valid : AreClasses classes
  pub len : length classes ≡ A.states
  pub alike : IsBisimulation A classes
  pub coarsest : IsCoarser A classes
