-- Parts of an automaton, and what is found on them.
use Rattle.std.specs.Prelude.{◌≡◌, ℕ, ◌≤◌, ◌↔◌, Bool, ◌&&◌, not, ◌==◌, List, length, Contains}
use Rattle.auto_core.specs.Automaton.{Automaton, IsAutomaton, Moves, IsAccepting, is_accepting, HasRepeat}
use Rattle.auto_core.specs.declared.parts.Trans.{Trans}
use Rattle.strong_components.specs.Graph.{at}
use Rattle.more_accepting.specs.More.{AvoidsAcceptance, AreJoined}

-- The list has some of the transitions, each once.
pub record ArePart (A : Automaton) (transitions : List Trans) : Type 0 where
  pub few : length transitions ≤ length A.transitions
  pub inside : (t : Trans) → Contains transitions t → Contains A.transitions t
  pub once : HasRepeat transitions → ⊥

-- B has the states, labels and initial state of A, these transitions and these accepting states.
pub record HasParts (A : Automaton) (transitions : List Trans) (members : List ℕ)
    (B : Automaton) : Type 0 where
  pub valid : IsAutomaton B
  pub states : B.states ≡ A.states
  pub labels : B.labels ≡ A.labels
  pub initial : B.initial ≡ A.initial
  pub moves : (t : Trans) → Contains B.transitions t ↔ Contains transitions t
  pub accepting : (q : ℕ) → IsAccepting B q ↔ Contains members q

-- Whether neither end of the transition accepts.
abbrev pub is_beside : Automaton → Trans → Bool
is_beside A t = not (is_accepting A t.source) && not (is_accepting A t.target)

-- Whether both ends of the transition have the same number.
abbrev pub is_inside : List ℕ → Trans → Bool
is_inside numbers t = at numbers t.source == at numbers t.target

-- B has the states of A, and those of its moves between states that do not accept.
pub record IsBeside (A B : Automaton) : Type 0 where
  pub valid : IsAutomaton B
  pub states : B.states ≡ A.states
  pub moves : (p a q : ℕ)
      → Moves B p a q ↔ (Moves A p a q × (IsAccepting A p → ⊥) × (IsAccepting A q → ⊥))

-- B has the states of A, and those of its moves that stay within a component.
pub record IsInside (A B : Automaton) : Type 0 where
  pub valid : IsAutomaton B
  pub states : B.states ≡ A.states
  pub moves : (p a q : ℕ) → Moves B p a q ↔ (Moves A p a q × AreJoined A p q)

-- A cycle of the state's component avoids acceptance.
abbrev pub IsJoinedToAvoiding : Automaton → ℕ → Type 0
IsJoinedToAvoiding A q = (p : ℕ) × AreJoined A q p × AvoidsAcceptance A p
