use Rattle.std.proofs.Common.{◌≡◌, ◌++◌, drop}
use Rattle.cert_value.specs.Printed.{joined, number_text}
use Rattle.cert_value.proofs.printing.print_numbers.Given as goal

abbrev pub invariant-loop-number : goal.invariant-loop-number
invariant-loop-number l =
    l.out ++ joined number_text (drop l.number-index l.numbers) ≡ l.fn.out ++ joined number_text l.numbers
