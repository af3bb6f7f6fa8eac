-- The states from which a loop is accepted.
use Rattle.std.specs.Prelude.{◌≡◌, ◌↔◌, ℕ, ◌+◌, ◌*◌, ◌<◌, ◌≤◌, Bool, true, List, length, drop}
use Rattle.auto_core.specs.Automaton.{Automaton}
use Rattle.auto_core.specs.Run.{Run, repeated}
use Rattle.auto_core.specs.Accept.{AcceptsLasso}
use Rattle.auto_core.specs.Rows.{HasCell}

-- From the state p the automaton accepts v^ω: for some k, some m of at least 1 and some state q, a
-- run on k times v leads from p to q, and a run on m times v leads from q to q past an accepting
-- state.
pub record AcceptsLoopFrom (A : Automaton) (v : List ℕ) (p : ℕ) : Type 0 where
  pub before : ℕ
  pub turns : ℕ
  pub state : ℕ
  pub flag : Bool
  pub enters : Run A p (repeated v before) state flag
  pub some_turn : 1 ≤ turns
  pub cycles : Run A state (repeated v turns) state true

-- From the state p the automaton accepts u·v^ω.
pub record AcceptsLassoFrom (A : Automaton) (u v : List ℕ) (p : ℕ) : Type 0 where
  pub end : ℕ
  pub flag : Bool
  pub run : Run A p u end flag
  pub loop : AcceptsLoopFrom A v end

-- The automaton accepts a lasso just where it does so from its initial state.
abbrev pub AcceptsFromInitial : Type 0
AcceptsFromInitial =
    (A : Automaton) (u v : List ℕ) → AcceptsLassoFrom A u v A.initial ↔ AcceptsLasso A u v

-- For each place of the prefix u, and for its end, a row of the states from which the rest of u and
-- then v for ever is accepted.
pub record AreRests (A : Automaton) (u v : List ℕ) (width : ℕ) (table : List ℕ) : Type 0 where
  pub len : length table ≡ (length u + 1) * width
  pub rows : (k p : ℕ) → k ≤ length u → p < A.states
      → HasCell table width k p ↔ AcceptsLassoFrom A (drop k u) v p
