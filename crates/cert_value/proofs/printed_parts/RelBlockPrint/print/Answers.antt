use Rattle.std.proofs.Common.{◌∷◌, [], decimal, length}
use Rattle.cert_value.specs.Text.{spelled, line_text, text_of, row_lines}
use Rattle.cert_value.specs.declared.keywords.Keyword.TheVariants as keyword
use Rattle.cert_value.specs.Printed.{joined}
use Rattle.cert_value.proofs.TextLemmas.{text_each, two_writes}
use Rattle.cert_value.proofs.printed_parts.RelBlockPrint.print.Goals as goal

pub returns : goal.returns
returns c =
    let rows = c.args.self.now.rows in
    let v = c.args.version in
    rw (text_each (row_lines v) rows)
    (two_writes c.args.out.now (line_text (spelled keyword.Rel ∷ decimal (length rows) ∷ [])) (joined (λ row. text_of (row_lines v row)) rows)
    (rw c.as_slice-rows.ensures at c.in_ok-print_count.ensures) (rw c.as_slice-rows.ensures at c.in_ok-print_all.ensures))
