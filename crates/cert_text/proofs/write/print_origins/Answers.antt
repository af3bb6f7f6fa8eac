use Rattle.std.proofs.Common.{◌∷◌, [], decimal, length}
use Rattle.cert_value.specs.Text.{spelled, line_text, text_of, origin_lines, elements_line}
use Rattle.cert_value.specs.declared.keywords.Keyword.TheVariants as keyword
use Rattle.cert_value.specs.Printed.{joined}
use Rattle.cert_value.proofs.TextLemmas.{text_each, three_writes}
use Rattle.cert_text.proofs.write.print_origins.Goals as goal

pub returns : goal.returns
returns c =
    let es = c.args.elements.now in
    rw (text_each origin_lines es)
    (three_writes c.args.out.now (line_text (spelled keyword.Limit ∷ decimal c.args.limit ∷ [])) (line_text (elements_line (length es)))
    (joined (λ e. text_of (origin_lines e)) es)
    c.in_ok-print_line.ensures c.in_ok-print_count.ensures c.in_ok-print_all.ensures)
