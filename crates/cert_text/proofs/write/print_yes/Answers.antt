use Rattle.std.proofs.Common.{◌++◌, ap, sym, ◌∙◌}
use Rattle.cert_value.specs.Text.{text_of, first_lines, second_lines, block_lines, closed_lines}
use Rattle.cert_value.proofs.TextLemmas.{four_writes, text_four}
use Rattle.cert_text.proofs.write.print_yes.Goals as goal

pub returns : goal.returns
returns c =
    let y = c.args.yes.now in
    let v = c.args.version in
    let A = first_lines v y.first in
    let B = second_lines v y.second in
    let C = block_lines v y.order in
    let D = closed_lines y.elements y.cover y.steps in
    four_writes c.args.out.now (text_of A) (text_of B) (text_of C) (text_of D)
    (rw c.as_slice.ensures at c.in_ok-print_first_log.ensures)
    (rw c.as_slice-2.ensures at c.in_ok-print_second_log.ensures)
    c.in_ok-print.ensures
    (rw (c.as_slice-3.ensures, c.as_slice-4.ensures, c.as_slice-5.ensures) at c.in_ok-print_elements.ensures)
    ∙ ap (λ x. c.args.out.now ++ x) (sym (text_four A B C D))
