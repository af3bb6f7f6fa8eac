-- What the steps of both logs name.
use Rattle.std.specs.Prelude.{◌≡◌, ℕ, ◌<◌, ◌≤◌, List, length, All}
use Rattle.auto_core.specs.Automaton.{Automaton}
use Rattle.auto_core.specs.Quotient.{AreClasses}

-- The numbers are those of states of A.
abbrev pub AreStates : Automaton → List ℕ → Type 0
AreStates A states = All (λ q. q < A.states) states

-- The numbers are those of transitions of A.
abbrev pub AreTransitions : Automaton → List ℕ → Type 0
AreTransitions A numbers = All (λ t. t < length A.transitions) numbers

-- The lookahead is one of 1 to 6.
abbrev pub IsLook : ℕ → Type 0
IsLook look = (1 ≤ look) × (look ≤ 6)

-- The list has a class for each state of A, and they are numbered in the order in which they
-- appear.
abbrev pub AreClassesFor : Automaton → List ℕ → Type 0
AreClassesFor A classes = (length classes ≡ A.states) × AreClasses classes
