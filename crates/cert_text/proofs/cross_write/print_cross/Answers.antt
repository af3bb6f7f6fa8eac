use Rattle.std.proofs.Common.{◌++◌, ap, sym, ◌∙◌}
use Rattle.cert_value.specs.Text.{text_of, line_text, sizes_line, block_lines, end_line}
use Rattle.cert_value.proofs.TextLemmas.{two_writes, four_writes}
use Rattle.cert_text.specs.CrossText.{block_of, heading_line, look_line}
use Rattle.cert_text.proofs.CrossTextLemmas.{text_parts}
use Rattle.cert_text.proofs.cross_write.print_cross.Goals as goal

pub returns : goal.returns
returns c =
    let k = c.args.cross.now in
    let rows = text_of (block_lines 1 (block_of k)) in
    let last = two_writes c.print_line-2.new.out rows (line_text end_line) (rw c.as_slice.ensures at c.in_ok-print_rows.ensures) c.in_ok-print_line-3.ensures in
    four_writes c.args.out.now
    (line_text heading_line)
    (line_text (sizes_line k.first_states k.second_states k.labels))
    (line_text (look_line k.look))
    (rows ++ line_text end_line)
    c.in_ok-print_heading.ensures
    c.in_ok-print_line.ensures
    c.in_ok-print_line-2.ensures
    last
    ∙ ap (λ x. c.args.out.now ++ x) (sym (text_parts k))
