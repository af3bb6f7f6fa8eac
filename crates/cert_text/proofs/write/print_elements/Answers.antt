use Rattle.std.proofs.Common.{◌∷◌, length}
use Rattle.cert_value.specs.Text.{spelled, line_text, text_of, element_lines, elements_line, numbers, step_lines, each}
use Rattle.cert_value.specs.declared.keywords.Keyword.TheVariants as keyword
use Rattle.cert_value.specs.Printed.{joined}
use Rattle.cert_value.proofs.TextLemmas.{text_each, four_writes, text_append}
use Rattle.cert_text.proofs.write.print_elements.Goals as goal

pub returns : goal.returns
returns c =
    let es = c.args.elements.now in
    let steps = c.args.steps.now in
    let cover = spelled keyword.Cover ∷ numbers c.args.cover.now in
    rw (text_append (each element_lines es) (cover ∷ each step_lines steps), text_each element_lines es, text_each step_lines steps)
    (four_writes c.args.out.now (line_text (elements_line (length es))) (joined (λ e. text_of (element_lines e)) es) (line_text cover)
    (joined (λ s. text_of (step_lines s)) steps)
    c.in_ok-print_count.ensures c.in_ok-print_all.ensures c.in_ok-print_line.ensures c.in_ok-print_all-2.ensures)
