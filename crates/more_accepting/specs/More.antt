-- Automata that are made to accept more where no lasso notices.
use Rattle.std.specs.Prelude.{◌≡◌, ℕ, ◌<◌, ◌⊎◌, ◌↔◌}
use Rattle.auto_core.specs.Automaton.{Automaton, IsAutomaton, Moves, IsAccepting}
use Rattle.auto_core.specs.Game.{Close}
use Rattle.auto_core.specs.Useful.{Reaches}

-- One move leads from p to q, and neither of them accepts.
abbrev pub MovesBeside : Automaton → ℕ → ℕ → Type 0
MovesBeside A p q = (a : ℕ) × Moves A p a q × (IsAccepting A p → ⊥) × (IsAccepting A q → ⊥)

-- The state lies on a cycle of states that do not accept.
abbrev pub AvoidsAcceptance : Automaton → ℕ → Type 0
AvoidsAcceptance A p = (q : ℕ) × MovesBeside A p q × Close (MovesBeside A) q p

-- Each of them is reached from the other: they are in one strongly connected component.
abbrev pub AreJoined : Automaton → ℕ → ℕ → Type 0
AreJoined A p q = Reaches A p q × Reaches A q p

-- No cycle of the state's strongly connected component avoids acceptance.
abbrev pub AcceptsThroughout : Automaton → ℕ → Type 0
AcceptsThroughout A p = (q : ℕ) → AreJoined A p q → AvoidsAcceptance A q → ⊥

-- The state accepts, or no cycle of its component avoids acceptance.
abbrev pub AcceptsMore : Automaton → ℕ → Type 0
AcceptsMore A p = IsAccepting A p ⊎ ((p < A.states) × AcceptsThroughout A p)

-- B is A but for this: a state accepts too where no cycle of its component avoids acceptance.
pub record IsMoreAccepting (A B : Automaton) : Type 0 where
  pub valid : IsAutomaton B
  pub states : B.states ≡ A.states
  pub labels : B.labels ≡ A.labels
  pub initial : B.initial ≡ A.initial
  pub moves : (p a q : ℕ) → Moves B p a q ↔ Moves A p a q
  pub accepting : (p : ℕ) → IsAccepting B p ↔ AcceptsMore A p
