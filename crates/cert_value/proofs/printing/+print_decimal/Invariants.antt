use Rattle.cert_value.proofs.printing.+print_decimal.Given as goal

abbrev pub decreases-print_decimal : goal.decreases-print_decimal
decreases-print_decimal l = l.number
