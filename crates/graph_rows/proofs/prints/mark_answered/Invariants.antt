use Rattle.std.proofs.Common.{◌≡◌, ◌<◌, ◌≤◌, ◌-◌, ℕ, length, false}
use Rattle.auto_core.specs.Game.{Holds}
use Rattle.auto_core.specs.Rows.{bit_of, HasBit}
use Rattle.graph_rows.proofs.prints.mark_answered.Given as goal

abbrev pub invariant-loop-q : goal.invariant-loop-q
invariant-loop-q l = record {
  answered : (q : ℕ) → q < l.at → HasBit l.related q → bit_of l.states q ≡ false → (u : ℕ) → HasBit l.row u → Holds l.order.pairs q u → ⊥;
  stay : (q : ℕ) → HasBit l.fn.states q → HasBit l.states q;
  len : length l.states ≡ 1;
  most : l.at ≤ 64;
}

abbrev pub decreases-loop-q : goal.decreases-loop-q
decreases-loop-q l = 64 - l.at
