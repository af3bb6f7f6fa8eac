use Rattle.std.proofs.Common.{◌≡◌, ℕ, ◌<◌, ◌≤◌, length, vec_len, slice_index}
use Rattle.auto_core.specs.Build.{IsStart}
use Rattle.auto_core.proofs.tables.starts_of.Given as goal

abbrev pub invariant-loop-p : goal.invariant-loop-p
invariant-loop-p l =
    (vec_len l.starts ≡ l.p)
    × ((q : ℕ) → q < l.p → IsStart l.keys q (slice_index l.starts.items q))
    × (l.at ≤ length l.keys)
    × ((k : ℕ) → k < l.at → slice_index l.keys k < l.p)
