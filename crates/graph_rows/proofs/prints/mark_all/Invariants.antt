use Rattle.std.proofs.Common.{◌≡◌, ◌<◌, ℕ, length, false}
use Rattle.auto_core.specs.Game.{Holds}
use Rattle.auto_core.specs.Rows.{bit_of, HasBit}
use Rattle.graph_rows.specs.Block.{block_graph}
use Rattle.graph_rows.specs.Prints.{HasNoAnswer, folded_bit}
use Rattle.graph_rows.proofs.prints.mark_all.Given as goal

abbrev pub invariant-loop-p : goal.invariant-loop-p
invariant-loop-p l = record {
  own : (j : ℕ) → HasBit l.own j → (p q : ℕ) × (p < l.order.size) × (q < l.order.size) × (folded_bit p q ≡ j) × (block_graph l.order.size l.g).joined p q;
  answered : (p q : ℕ) → p < l.p → q < l.order.size → bit_of l.answered (folded_bit p q) ≡ false → HasNoAnswer (Holds l.order.pairs) (block_graph l.order.size l.g) false p q;
  own_len : length l.own ≡ 1;
  answered_len : length l.answered ≡ 1;
}
