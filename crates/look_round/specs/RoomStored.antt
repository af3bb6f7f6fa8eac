-- How `Scratch` holds its room.
use Rattle.std.specs.Prelude.{◌≡◌, ◌+◌, ◌*◌, ◌/◌, length}
use Rattle.look_round.specs.Room.{Room}
use Rattle.look_round.specs.declared.scratch.Scratch.TheInside.{Inside}
use Rattle.look_round.specs.declared.scratch.TheConstants.{MOST_LISTED}

-- What the fields are room for.
abbrev pub room_of : Inside → Room
room_of s = record { states = s.states; look = s.look }

-- Six moves fit into the path, and there is a row for each place of the path and for its start.
-- What a round has found out is in rows of the same width. Some states can be listed.
pub record IsRoomStored (s : Inside) : Type 0 where
  pub path : s.path.capacity ≡ 6
  pub sets : length s.sets.items ≡ (s.look + 1) * ((s.states + 63) / 64)
  pub known : s.known.width ≡ (s.states + 63) / 64
  pub listed : length s.listed.items ≡ MOST_LISTED
