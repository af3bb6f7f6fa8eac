use Rattle.std.proofs.Common.{◌++◌, ap, sym, ◌∙◌}
use Rattle.cert_value.specs.Text.{text_of, first_lines, second_lines}
use Rattle.cert_value.proofs.TextLemmas.{three_writes, text_three}
use Rattle.proof_text.specs.ProofText.{class_lines}
use Rattle.proof_text.proofs.write.print_front.Goals as goal

pub returns : goal.returns
returns c =
    let f = c.args.front.now in
    let A = second_lines 2 f.second in
    let B = class_lines f.letters f.map f.accepting in
    let C = first_lines 2 f.first in
    three_writes c.args.out.now (text_of A) (text_of B) (text_of C)
    (rw c.as_slice.ensures at c.in_ok-print_second_log.ensures)
    (rw (c.as_slice-2.ensures, c.as_slice-3.ensures, c.as_slice-4.ensures) at c.in_ok-print_classes.ensures)
    (rw c.as_slice-5.ensures at c.in_ok-print_first_log.ensures)
    ∙ ap (λ x. c.args.out.now ++ x) (sym (text_three A B C))
