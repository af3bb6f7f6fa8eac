use Rattle.std.proofs.Common.{◌++◌, ap, sym, ◌∙◌}
use Rattle.cert_value.specs.Text.{text_of, line_text, first_line, sizes_line, body_lines, end_line, form_of}
use Rattle.cert_value.proofs.TextLemmas.{four_writes, text_parts}
use Rattle.cert_text.proofs.write.print_cert.Goals as goal

pub returns : goal.returns
returns c =
    let k = record c.args.cert.now { version = c.args.version } in
    four_writes c.args.out.now
    (line_text (first_line k.version k.mode (form_of k.body)))
    (line_text (sizes_line k.first_states k.second_states k.labels))
    (text_of (body_lines k.version k.body))
    (line_text end_line)
    (rw c.form_of.ensures at c.in_ok-print_first_line.ensures)
    c.in_ok-print_line.ensures
    c.in_ok-print_body.ensures
    c.in_ok-print_line-2.ensures
    ∙ ap (λ x. c.args.out.now ++ x) (sym (text_parts k))
