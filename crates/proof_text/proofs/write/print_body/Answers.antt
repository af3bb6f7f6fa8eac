use Rattle.std.proofs.Common.{◌++◌, ap, sym, ◌∙◌}
use Rattle.cert_value.specs.Text.{text_of}
use Rattle.cert_value.proofs.TextLemmas.{two_writes, text_append}
use Rattle.proof_text.specs.ProofText.{front_lines, evidence_lines, proof_body_lines}
use Rattle.proof_text.proofs.write.print_body.Goals as goal

pub returns-in_ok-print_evidence-in-Yes : goal.returns-in_ok-print_evidence-in-Yes
returns-in_ok-print_evidence-in-Yes c =
    let A = front_lines c.in-Yes.front in
    let B = evidence_lines c.in-Yes.evidence in
    two_writes c.args.out.now (text_of A) (text_of B) c.in_ok-print_front-in-Yes.ensures c.in_ok-print_evidence-in-Yes.ensures
    ∙ ap (λ x. c.args.out.now ++ x) (sym (text_append A B) ∙ ap (λ b. text_of (proof_body_lines b)) (sym c.in-Yes.is))
