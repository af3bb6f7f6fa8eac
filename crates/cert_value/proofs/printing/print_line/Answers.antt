use Rattle.std.proofs.Common.{◌∷◌, []}
use Rattle.cert_value.specs.Text.{spelled}
use Rattle.cert_value.specs.Printed.{joined, number_text}
use Rattle.cert_value.proofs.TextLemmas.{spaced_two, four_writes}
use Rattle.cert_value.proofs.printing.print_line.Goals as goal

pub returns : goal.returns
returns c =
    rw (spaced_two c.args.heads.now c.args.tail.now)
    (four_writes c.args.out.now (spelled c.args.keyword) (joined number_text c.args.heads.now) (joined number_text c.args.tail.now) (10 ∷ [])
    c.in_ok-print_keyword.ensures c.in_ok-print_numbers.ensures c.in_ok-print_numbers-2.ensures c.in_ok-push.ensures.ok)
