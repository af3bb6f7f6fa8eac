use Rattle.std.proofs.Common.{◌++◌, ap, sym, ◌∙◌}
use Rattle.cert_value.specs.Text.{text_of, first_lines, second_lines, limit_lines}
use Rattle.cert_value.proofs.TextLemmas.{three_writes, text_three}
use Rattle.cert_text.proofs.write.print_listing.Goals as goal

pub returns : goal.returns
returns c =
    let y = c.args.list.now in
    let v = c.args.version in
    let A = first_lines v y.first in
    let B = second_lines v y.second in
    let C = limit_lines y.limit y.elements in
    three_writes c.args.out.now (text_of A) (text_of B) (text_of C)
    (rw c.as_slice.ensures at c.in_ok-print_first_log.ensures)
    (rw c.as_slice-2.ensures at c.in_ok-print_second_log.ensures)
    (rw c.as_slice-3.ensures at c.in_ok-print_origins.ensures)
    ∙ ap (λ x. c.args.out.now ++ x) (sym (text_three A B C))
