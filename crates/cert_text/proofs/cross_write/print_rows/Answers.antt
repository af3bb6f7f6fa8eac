use Rattle.std.proofs.Common.{◌∷◌, [], decimal, length}
use Rattle.cert_value.specs.Text.{spelled, line_text, text_of, row_lines}
use Rattle.cert_value.specs.declared.keywords.Keyword.TheVariants as keyword
use Rattle.cert_value.specs.Printed.{joined}
use Rattle.cert_value.proofs.TextLemmas.{text_each, two_writes}
use Rattle.cert_text.proofs.cross_write.print_rows.Goals as goal

pub returns : goal.returns
returns c =
    let rows = c.args.rows.now in
    rw (text_each (row_lines 1) rows)
    (two_writes c.args.out.now (line_text (spelled keyword.Rel ∷ decimal (length rows) ∷ [])) (joined (λ row. text_of (row_lines 1 row)) rows)
    c.in_ok-print_count.ensures c.in_ok-print_all.ensures)
