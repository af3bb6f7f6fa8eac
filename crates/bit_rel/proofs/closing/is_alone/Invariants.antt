use Rattle.std.proofs.Common.{◌≡◌, ℕ, ◌/◌, ◌<◌}
use Rattle.auto_core.specs.Rows.{HasCell}
use Rattle.bit_rel.proofs.closing.is_alone.Given as goal

abbrev pub invariant-loop-word : goal.invariant-loop-word
invariant-loop-word l = (q : ℕ) → q / 64 < l.word → HasCell l.table l.width l.at q → q / 64 ≡ l.at / 64
