use Rattle.std.proofs.Common.{◌≡◌, ℕ, ◌<◌, false, length}
use Rattle.auto_core.specs.Rows.{HasBit, bit_of}
use Rattle.auto_core.specs.Game.{Holds}
use Rattle.graph_rows.specs.Block.{block_graph}
use Rattle.graph_rows.specs.Prints.{is_past, joined_pairs, picked_source, picked_target}
use Rattle.graph_rows.proofs.prints.mark_picked.Given as goal

abbrev pub invariant-loop-j : goal.invariant-loop-j
invariant-loop-j l =
    ((i : ℕ) → HasBit l.own i → joined_pairs (block_graph l.order.size l.g) (is_past i) (picked_source l.order.size i) (picked_target l.order.size i))
    × ((i : ℕ) → i < l.j → bit_of l.answered i ≡ false → (u : ℕ) → joined_pairs (block_graph l.order.size l.g) (is_past i) (picked_source l.order.size i) u → Holds l.order.pairs (picked_target l.order.size i) u → ⊥)
    × (length l.own ≡ 1)
    × (length l.answered ≡ 1)
