use Rattle.std.proofs.Common.{◌∷◌, [], decimal}
use Rattle.cert_value.specs.Text.{spelled, line_text, text_of, block_lines, numbers, gone_numbers}
use Rattle.cert_value.specs.declared.keywords.Keyword.TheVariants as keyword
use Rattle.cert_value.specs.Printed.{joined}
use Rattle.cert_value.proofs.TextLemmas.{text_each, three_writes}
use Rattle.cert_value.proofs.printed_parts.print_first_cut.Goals as goal

pub returns : goal.returns
returns c =
    let blocks = c.args.blocks.now in
    let v = c.args.version in
    rw (text_each (block_lines v) blocks)
    (three_writes c.args.out.now
    (line_text (spelled keyword.Cut ∷ decimal c.args.pair ∷ decimal c.args.look ∷ []))
    (line_text (spelled keyword.Gone ∷ numbers (gone_numbers c.args.gone.now)))
    (joined (λ b. text_of (block_lines v b)) blocks)
    c.in_ok-print_line.ensures c.in_ok-print_gone.ensures c.in_ok-print_all.ensures)
