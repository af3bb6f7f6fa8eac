-- The graph of a word as two tables of bits.
use Rattle.std.specs.Prelude.{◌↔◌, ℕ, ◌<◌, Bool, true, List, cond}
use Rattle.auto_core.specs.Automaton.{Automaton, is_accepting}
use Rattle.auto_core.specs.Run.{Run}
use Rattle.auto_core.specs.Rows.{HasCell}
use Rattle.auto_core.specs.Reach.{IsTable}

-- The tables of an automaton's word: `any` joins two states where a run on the word does, `flagged`
-- where one does that passes an accepting state.
pub record ArePlanes (A : Automaton) (w : List ℕ) (width : ℕ) (any flagged : List ℕ) : Type 0 where
  pub any_table : IsTable any A.states width
  pub flagged_table : IsTable flagged A.states width
  pub any_runs : (p q : ℕ) → p < A.states → q < A.states
      → HasCell any width p q ↔ ((flag : Bool) × Run A p w q flag)
  pub flagged_runs : (p q : ℕ) → p < A.states → q < A.states
      → HasCell flagged width p q ↔ Run A p w q true

-- The table in which to look for the rest of a run, once a move has led to r: `marked` where r is
-- accepting.
abbrev pub chosen : Automaton → List ℕ → List ℕ → ℕ → List ℕ
chosen A marked plain r = cond (is_accepting A r) marked plain
