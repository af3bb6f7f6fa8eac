use Rattle.std.proofs.Common.{◌+◌, ◌-◌, ◌++◌, ap, sym, ◌∙◌, append_assoc}
use Rattle.std.specs.List.{range_with_len}
use Rattle.cert_value.specs.Printed.{joined, number_text}
use Rattle.cert_value.proofs.TextLemmas.{span_more}
use Rattle.cert_value.proofs.printed_parts.print_run_numbers.Goals as goal

pub loop-number-preserved : goal.loop-number-preserved
loop-number-preserved c =
    let n = c.loop-number.number in
    let last = c.args.run.last in
    let rest = joined number_text (range_with_len (n + 1) (last + 1 - (n + 1))) in
    ap (λ x. x ++ rest) c.in_ok-print_number.ensures
    ∙ append_assoc c.loop-number.out (number_text n) rest
    ∙ ap (λ xs. c.loop-number.out ++ joined number_text xs) (sym (span_more n last c.loop-number-test.true))
    ∙ c.loop-number.invariant
