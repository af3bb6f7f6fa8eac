-- Tables of lists of numbers.
use Rattle.std.specs.Prelude.{ℕ, List, [], map, slice_index_or, Vec}
use Rattle.std.specs.declared.alloc.Global.{Global}

-- The numbers at a place of the table.
abbrev pub numbers_at : List (Vec ℕ Global) → ℕ → List ℕ
numbers_at table k = slice_index_or (map (λ (v : Vec ℕ Global). v.items) table) k []
