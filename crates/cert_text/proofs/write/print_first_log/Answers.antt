use Rattle.std.proofs.Common.{◌∷◌, [], decimal, length}
use Rattle.cert_value.specs.Text.{spelled, line_text, text_of, first_step_lines}
use Rattle.cert_value.specs.declared.keywords.Keyword.TheVariants as keyword
use Rattle.cert_value.specs.Printed.{joined}
use Rattle.cert_value.proofs.TextLemmas.{text_each, two_writes}
use Rattle.cert_text.proofs.write.print_first_log.Goals as goal

pub returns : goal.returns
returns c =
    let steps = c.args.steps.now in
    let v = c.args.version in
    rw (text_each (first_step_lines v) steps)
    (two_writes c.args.out.now (line_text (spelled keyword.Log1 ∷ decimal (length steps) ∷ [])) (joined (λ s. text_of (first_step_lines v s)) steps)
    c.in_ok-print_count.ensures c.in_ok-print_all.ensures)
