use Rattle.std.proofs.Common.{◌≡◌, drop}
use Rattle.cert_value.specs.WellFormed.{are_rows}
use Rattle.cert_value.proofs.checks.are_rows.Given as goal

abbrev pub invariant-loop-row : goal.invariant-loop-row
invariant-loop-row l = are_rows l.bound (drop l.row-index l.rows) ≡ are_rows 0 l.rows
