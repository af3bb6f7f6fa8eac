-- The room that loops are marked in.
use Rattle.std.specs.Prelude.{◌≡◌, ◌+◌, ◌*◌, ◌/◌, ℕ, length}
use Rattle.bit_rows.specs.declared.looping.Room.TheInside.{Inside}

-- The number of places that it is for.
abbrev pub places_of : Inside → ℕ
places_of r = r.places

-- A table and four rows for so many places.
pub record HasLoopRoom (r : Inside) : Type 0 where
  pub turned : length r.turned.items ≡ r.places * ((r.places + 63) / 64)
  pub done_places : length r.done_places.items ≡ (r.places + 63) / 64
  pub component : length r.component.items ≡ (r.places + 63) / 64
  pub behind : length r.behind.items ≡ (r.places + 63) / 64
  pub done : length r.done.items ≡ (r.places + 63) / 64
