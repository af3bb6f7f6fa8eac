use Rattle.std.proofs.Common.{◌≡◌, ℕ, ◌<◌, vec_len, slice_index_or}
use Rattle.auto_core.specs.declared.tables.Arrival.{Arrival}
use Rattle.auto_core.specs.Build.{target_of}
use Rattle.auto_core.proofs.tables.arrivals_of.Given as goal

abbrev pub invariant-loop-i : goal.invariant-loop-i
invariant-loop-i l =
    (vec_len l.arrivals ≡ l.i)
    × ((k : ℕ) (d : Arrival) → k < l.i → slice_index_or l.arrivals.items k d ≡ record { target = target_of l.transitions k; number = k })
