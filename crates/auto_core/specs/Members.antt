-- Sets of states as ascending lists.
use Rattle.std.specs.Prelude.{◌≡◌, ℕ, ◌<◌, ◌⊎◌, ◌↔◌, List, All, Contains}
use Rattle.std.specs.List.Sorted.{IsStrictlyIncreasing}

-- A set of the states below `states`: the list of its members.
pub record Members : Type 0 where
  pub states : ℕ
  pub members : List ℕ

-- A valid set: each member is one of the states, and the members ascend.
pub record IsSet (S : Members) : Type 0 where
  pub in_range : All (λ q. q < S.states) S.members
  pub in_order : IsStrictlyIncreasing S.members

-- The new set is one of the same states, and has the members of the old one and this one.
pub record Gains (old new : Members) (state : ℕ) : Type 0 where
  pub states : new.states ≡ old.states
  pub members : (q : ℕ) → Contains new.members q ↔ (Contains old.members q ⊎ (q ≡ state))
