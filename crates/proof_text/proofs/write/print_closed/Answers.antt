use Rattle.std.proofs.Common.{◌++◌, ap, sym, ◌∙◌}
use Rattle.cert_value.specs.Text.{text_of, block_lines, closed_lines}
use Rattle.cert_value.proofs.TextLemmas.{two_writes, text_append}
use Rattle.proof_text.proofs.write.print_closed.Goals as goal

pub returns : goal.returns
returns c =
    let k = c.args.closed.now in
    let A = block_lines 2 k.order in
    let B = closed_lines k.elements k.cover k.steps in
    two_writes c.args.out.now (text_of A) (text_of B)
    c.in_ok-print.ensures
    (rw (c.as_slice.ensures, c.as_slice-2.ensures, c.as_slice-3.ensures) at c.in_ok-print_elements.ensures)
    ∙ ap (λ x. c.args.out.now ++ x) (sym (text_append A B))
