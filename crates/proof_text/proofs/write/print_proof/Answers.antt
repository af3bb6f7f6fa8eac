use Rattle.std.proofs.Common.{◌++◌, ap, sym, ◌∙◌}
use Rattle.cert_value.specs.Text.{text_of, line_text, sizes_line, end_line}
use Rattle.cert_value.proofs.TextLemmas.{four_writes}
use Rattle.proof_text.specs.ProofText.{proof_heading, proof_form_of, proof_body_lines}
use Rattle.proof_text.proofs.ProofTextLemmas.{text_parts}
use Rattle.proof_text.proofs.write.print_proof.Goals as goal

pub returns : goal.returns
returns c =
    let p = c.args.proof.now in
    four_writes c.args.out.now
    (line_text (proof_heading (proof_form_of p.body)))
    (line_text (sizes_line p.first_states p.second_states p.labels))
    (text_of (proof_body_lines p.body))
    (line_text end_line)
    (rw c.form_of.ensures at c.in_ok-print_heading.ensures)
    c.in_ok-print_line.ensures
    c.in_ok-print_body.ensures
    c.in_ok-print_line-2.ensures
    ∙ ap (λ x. c.args.out.now ++ x) (sym (text_parts p))
