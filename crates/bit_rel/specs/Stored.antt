-- How `Rel` holds its relation.
use Rattle.std.specs.Prelude.{◌≡◌, ℕ, zero, suc, ◌+◌, ◌/◌, Bool, List, [], ◌∷◌, ◌++◌, if◌then◌else◌}
use Rattle.auto_core.specs.Rows.{cell_of}
use Rattle.auto_core.specs.Reach.{IsTable}
use Rattle.bit_rel.specs.Relation.{Relation}
use Rattle.bit_rel.specs.declared.relation.Rel.TheInside.{Inside}

-- The pairs of p with the numbers below n that pass the test.
abbrev pub pairs_in_row : (ℕ → ℕ → Bool) → ℕ → ℕ → List (ℕ × ℕ)
pairs_in_row cell p zero = []
pairs_in_row cell p (suc q) = pairs_in_row cell p q ++ (if cell p q then (p, q) ∷ [] else [])

-- The pairs that pass the test, with left numbers below m and right ones below n.
abbrev pub pairs_below : (ℕ → ℕ → Bool) → ℕ → ℕ → List (ℕ × ℕ)
pairs_below cell n zero = []
pairs_below cell n (suc p) = pairs_below cell n p ++ pairs_in_row cell p n

-- The relation that the fields stand for.
abbrev pub relation_of : Inside → Relation
relation_of r =
    record { size = r.count; pairs = pairs_below (cell_of r.table.items r.width) r.count r.count }

-- The fields fit one another.
pub record IsStoredRelation (r : Inside) : Type 0 where
  pub width : r.width ≡ (r.count + 63) / 64
  pub cells : IsTable r.table.items r.count r.width
