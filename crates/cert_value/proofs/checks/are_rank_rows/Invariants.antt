use Rattle.std.proofs.Common.{◌≡◌, [], drop}
use Rattle.std.specs.Option.{option_copied}
use Rattle.cert_value.specs.WellFormed.{are_rank_rows, key_before}
use Rattle.cert_value.proofs.checks.are_rank_rows.Given as goal

abbrev pub invariant-loop-row : goal.invariant-loop-row
invariant-loop-row l =
    are_rank_rows l.letters (key_before (option_copied l.before)) (drop l.row-index l.rows)
    ≡ are_rank_rows l.letters [] l.rows
