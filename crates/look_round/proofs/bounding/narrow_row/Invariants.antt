use Rattle.std.proofs.Common.{◌≡◌, ℕ, ◌*◌, ◌<◌}
use Rattle.auto_core.specs.Rows.{cell_of}
use Rattle.look_round.specs.Words.{IsRowNarrowed}
use Rattle.look_round.proofs.bounding.narrow_row.Given as goal

abbrev pub invariant-loop-i : goal.invariant-loop-i
invariant-loop-i l =
    IsRowNarrowed l.fn.table l.table l.width l.columns l.p l.i
    × ((r q : ℕ) → q < l.width * 64 → ¬ (r ≡ l.p) → cell_of l.table l.width r q ≡ cell_of l.fn.table l.width r q)
