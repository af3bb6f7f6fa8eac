use Rattle.std.proofs.Common.{◌≡◌, ◌<◌, ℕ, length, false}
use Rattle.auto_core.specs.Game.{Holds}
use Rattle.auto_core.specs.Rows.{bit_of, HasBit}
use Rattle.graph_rows.proofs.prints.mark_related.Given as goal

abbrev pub invariant-loop-q : goal.invariant-loop-q
invariant-loop-q l = record {
  len : length l.states ≡ 1;
  within : (q : ℕ) → HasBit l.states q → q < l.order.size;
  others : (q : ℕ) → q < l.q → bit_of l.states q ≡ false → (u : ℕ) → Holds l.order.pairs q u → u ≡ q;
}
