use Rattle.std.proofs.Common.{◌∷◌, [], append-nil}
use Rattle.cert_value.specs.Text.{spelled}
use Rattle.cert_value.specs.declared.keywords.Keyword.TheVariants as keyword
use Rattle.cert_value.specs.Printed.{joined, number_text, run_text}
use Rattle.cert_value.proofs.TextLemmas.{spaced_runs, four_writes}
use Rattle.cert_value.proofs.printed_parts.RowPrint.print.Goals as goal

pub returns : goal.returns
returns c =
    let row = c.args.self.now in
    let v = c.args.version in
    rw (spaced_runs v row.runs, append-nil)
    (four_writes c.args.out.now (spelled keyword.Row) (number_text row.left) (joined (run_text v) row.runs) (10 ∷ [])
    c.in_ok-print_keyword.ensures c.in_ok-print_number.ensures (rw c.as_slice.ensures at c.in_ok-print_all.ensures) c.in_ok-push.ensures.ok)
