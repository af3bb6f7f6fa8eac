use Rattle.std.proofs.Common.{ℕ, ◌≡◌, ◌*◌, ◌<◌, ◌||◌, ◌&&◌, ◌==◌, ltb}
use Rattle.auto_core.specs.Rows.{cell_of}
use Rattle.bit_rel.proofs.closing.relate_selves.Given as goal

abbrev pub invariant-loop-p : goal.invariant-loop-p
invariant-loop-p l =
    (r q : ℕ) → q < l.width * 64 → cell_of l.table l.width r q ≡ (cell_of l.fn.table l.width r q || (ltb r l.p && r == q))
