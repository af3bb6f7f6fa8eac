use Rattle.std.proofs.Common.{◌≡◌, ◌++◌, ◌+◌, ◌-◌}
use Rattle.std.specs.List.{range_with_len}
use Rattle.cert_value.specs.Text.{run_numbers}
use Rattle.cert_value.specs.Printed.{joined, number_text}
use Rattle.cert_value.proofs.printed_parts.print_run_numbers.Given as goal

abbrev pub invariant-loop-number : goal.invariant-loop-number
invariant-loop-number l =
    l.out ++ joined number_text (range_with_len l.number (l.fn.run.last + 1 - l.number))
    ≡ l.fn.out ++ joined number_text (run_numbers l.fn.run)
