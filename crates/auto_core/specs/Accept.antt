-- Acceptance of lassos and of words, and how two automata compare.
use Rattle.std.specs.Prelude.{ℕ, ◌≤◌, Bool, true, List, ◌++◌}
use Rattle.auto_core.specs.Automaton.{Automaton, IsAccepting}
use Rattle.auto_core.specs.Run.{Run, repeated}
use Rattle.auto_core.specs.declared.parts.Mode.{Mode}
use Rattle.auto_core.specs.declared.parts.Mode.TheVariants.{Buchi, Finite}

-- The automaton accepts u·v^ω: for some k, some m of at least 1 and some state p, a run on u and k
-- times v leads from the initial state to p, and a run on m times v leads from p to p past an
-- accepting state.
pub record AcceptsLasso (A : Automaton) (u v : List ℕ) : Type 0 where
  pub before : ℕ
  pub turns : ℕ
  pub state : ℕ
  pub flag : Bool
  pub enters : Run A A.initial (u ++ repeated v before) state flag
  pub some_turn : 1 ≤ turns
  pub cycles : Run A state (repeated v turns) state true

-- The automaton accepts the word: a run on it leads from the initial state to an accepting state.
pub record AcceptsWord (A : Automaton) (w : List ℕ) : Type 0 where
  pub state : ℕ
  pub flag : Bool
  pub run : Run A A.initial w state flag
  pub ends : IsAccepting A state

-- B accepts every lasso, in finite mode every word, that A accepts.
abbrev pub Includes : Automaton → Automaton → Mode → Type 0
Includes A B Buchi = (u v : List ℕ) → AcceptsLasso A u v → AcceptsLasso B u v
Includes A B Finite = (w : List ℕ) → AcceptsWord A w → AcceptsWord B w

-- Both accept the same lassos, in finite mode the same words.
abbrev pub Same : Automaton → Automaton → Mode → Type 0
Same A B mode = Includes A B mode × Includes B A mode

-- A accepts the lasso and B does not.
abbrev pub SeparatesLasso : Automaton → Automaton → List ℕ → List ℕ → Type 0
SeparatesLasso A B u v = AcceptsLasso A u v × (AcceptsLasso B u v → ⊥)

-- A accepts the word and B does not.
abbrev pub SeparatesWord : Automaton → Automaton → List ℕ → Type 0
SeparatesWord A B w = AcceptsWord A w × (AcceptsWord B w → ⊥)
