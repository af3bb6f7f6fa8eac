-- Classes of states that accept alike and move alike.
use Rattle.std.specs.Prelude.{◌≡◌, ℕ, ◌<◌, List}
use Rattle.auto_core.specs.Automaton.{Automaton, IsAutomaton, Moves, IsAccepting}
use Rattle.auto_core.specs.Accept.{Same}
use Rattle.auto_core.specs.Quotient.{class_of, IsQuotient}
use Rattle.auto_core.specs.declared.parts.Mode.{Mode}
use Rattle.map_laws.specs.Maps.{CarriesOver}

-- Two states of one class: both accept or neither does, and each move of one is answered by a move
-- of the other into the same class.
pub record IsBisimulation (A : Automaton) (classes : List ℕ) : Type 0 where
  pub accept :
      (p q : ℕ) → p < A.states → q < A.states → class_of classes p ≡ class_of classes q
      → IsAccepting A p → IsAccepting A q
  pub moves :
      (p q a r : ℕ) → p < A.states → q < A.states → class_of classes p ≡ class_of classes q
      → Moves A p a r →
      (s : ℕ) × Moves A q a s × (class_of classes r ≡ class_of classes s)

-- The classes of a quotient, whatever they are, carry the automaton over into the quotient.
abbrev pub QuotientCarriesOver : Type 0
QuotientCarriesOver =
    (A B : Automaton) (classes : List ℕ) → IsQuotient A classes B
    → CarriesOver A B (class_of classes)

-- A quotient by a bisimulation accepts the same.
abbrev pub BisimulationQuotientIsSame : Type 0
BisimulationQuotientIsSame = (A B : Automaton) (classes : List ℕ) (mode : Mode) →
    IsAutomaton A → IsBisimulation A classes → IsQuotient A classes B → Same A B mode
