-- The transitions' numbers beside their targets, as `Auto::build` sorts them.
use Rattle.std.specs.Prelude.{◌≡◌, ℕ, ◌<◌, List, length, map, slice_index_or}
use Rattle.auto_core.specs.declared.parts.Trans.{Trans}
use Rattle.auto_core.specs.declared.tables.Arrival.{Arrival}
use Rattle.auto_core.specs.Build.{target_of}

-- Each transition's number and target, in the order of the numbers.
pub record AreNumbered (transitions : List Trans) (arrivals : List Arrival) : Type 0 where
  pub len : length arrivals ≡ length transitions
  pub each :
      (k : ℕ) (d : Arrival)
      → k < length transitions
      → slice_index_or arrivals k d ≡ record { target = target_of transitions k; number = k }

-- The numbers alone.
abbrev pub arrival_numbers : List Arrival → List ℕ
arrival_numbers arrivals = map (λ a. a.number) arrivals
