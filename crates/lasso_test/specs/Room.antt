-- The room that a lasso test works in.
use Rattle.std.specs.Prelude.{◌≡◌, ℕ, length}
use Rattle.graph_rows.specs.Block.{width_of}
use Rattle.lasso_test.specs.declared.passing.Scratch.TheInside.{Inside}

-- The number of states that it is for.
abbrev pub states_of : Inside → ℕ
states_of s = s.states

-- Each of the three rows has the words for so many bits, and the room for the marks of loops is for
-- so many states.
pub record HasRoomForMarks (s : Inside) : Type 0 where
  pub marks : length s.marks.items ≡ width_of s.states
  pub back : length s.back.items ≡ width_of s.states
  pub done : length s.done.items ≡ width_of s.states
  pub loops : s.room ≡ s.states
