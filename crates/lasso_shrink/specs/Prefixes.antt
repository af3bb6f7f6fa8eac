-- Letters of a lasso's prefix that are left out.
use Rattle.std.specs.Prelude.{◌≡◌, ◌↔◌, ℕ, ◌+◌, ◌*◌, ◌/◌, ◌<◌, ◌≤◌, List, length, drop}
use Rattle.auto_core.specs.Automaton.{Automaton}
use Rattle.auto_core.specs.Pairs.{set_of}
use Rattle.auto_core.specs.Rows.{HasBit, HasCell}
use Rattle.auto_core.specs.declared.parts.Lasso.{Lasso}
use Rattle.set_rows.specs.Sets.{IsRow}
use Rattle.lasso_accept.specs.Looping.{AcceptsLassoFrom}
use Rattle.lasso_shrink.specs.declared.rests.Rests.{Rests}
use Rattle.lasso_shrink.specs.Leaving.{LeavesOut}
use Rattle.lasso_shrink.specs.Shrinking.{letters_of, lasso_without, LassoSeparates}

-- The row has the states that the word leads to.
pub record IsFront (A : Automaton) (w front : List ℕ) : Type 0 where
  pub row : IsRow A.states front
  pub members : (q : ℕ) → HasBit front q ↔ set_of A w q

-- From row `first` on, the table has for each place of the prefix u, and for its end, the row of
-- the states from which the rest of u and then v for ever is accepted.
pub record AreRestsFrom (A : Automaton) (u v : List ℕ) (width first : ℕ)
    (table : List ℕ) : Type 0 where
  pub len : length table ≡ (first + length u + 1) * width
  pub rows : (k p : ℕ) → k ≤ length u → p < A.states
      → HasCell table width (first + k) p ↔ AcceptsLassoFrom A (drop k u) v p

-- The rests of the lasso are kept, with room for two rows.
pub record AreKept (A : Automaton) (u v : List ℕ) (rests : Rests) : Type 0 where
  pub rows : AreRestsFrom A u v ((A.states + 63) / 64) rests.first rests.table.items
  pub row : length rests.row.items ≡ (A.states + 63) / 64
  pub out : length rests.out.items ≡ (A.states + 63) / 64

-- Without any single letter of the prefix the lasso does not separate the automata.
abbrev pub PrefixNeedsEach : Automaton → Automaton → Lasso → Type 0
PrefixNeedsEach A B l = (k : ℕ) → k < length l.prefix → LassoSeparates A B (lasso_without l k) → ⊥

-- The letter at this place of the prefix is the first that can go.
pub record IsFirstPlace (A B : Automaton) (l : Lasso) (place : ℕ) : Type 0 where
  pub within : place < length l.prefix
  pub keeps : LassoSeparates A B (lasso_without l place)
  pub first : (k : ℕ) → k < place → LassoSeparates A B (lasso_without l k) → ⊥

-- Letters of the prefix are left out, each the first that can go, until none can go.
pub record PrefixIsShrunk (A B : Automaton) (l left : Lasso) : Type 0 where
  pub letters : ℕ
  pub left_out : LeavesOut (LassoSeparates A B) letters_of lasso_without letters l left
  pub separates : LassoSeparates A B left
  pub needed : PrefixNeedsEach A B left
  pub fewer : letters_of left ≤ letters_of l
