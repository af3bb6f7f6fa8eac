-- How `StateSet` holds its members.
use Rattle.std.specs.Prelude.{◌≡◌, false, filter, length, slice_index_or}
use Rattle.std.specs.List.{range_with_len}
use Rattle.auto_core.specs.Members.{Members}
use Rattle.auto_core.specs.declared.state_set.StateSet.TheInside.{Inside}

-- The set that the fields stand for: the states whose flag is set.
abbrev pub members_of : Inside → Members
members_of s =
    record {
      states = s.states;
      members = filter (λ q. slice_index_or s.flags.items q false) (range_with_len 0 s.states);
    }

-- There is a flag for each state.
abbrev pub HasFlags : Inside → Type 0
HasFlags s = length s.flags.items ≡ s.states
