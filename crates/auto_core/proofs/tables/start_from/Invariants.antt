use Rattle.std.proofs.Common.{ℕ, ◌<◌, slice_index}
use Rattle.auto_core.proofs.tables.start_from.Given as goal

abbrev pub invariant-loop-k : goal.invariant-loop-k
invariant-loop-k l = (i : ℕ) → i < l.k → slice_index l.keys i < l.p
