use Rattle.std.proofs.Common.{◌∷◌, []}
use Rattle.cert_value.specs.Text.{spelled}
use Rattle.cert_value.specs.declared.keywords.Keyword.TheVariants as keyword
use Rattle.cert_value.specs.Printed.{joined, number_text, ranked_text}
use Rattle.cert_value.proofs.TextLemmas.{spaced_rank_row, five_writes}
use Rattle.cert_value.proofs.printed_parts.print_rank_row.Goals as goal

pub returns : goal.returns
returns c =
    let ahead = c.args.ahead.now in
    let rights = c.args.rights.now in
    rw (spaced_rank_row ahead rights)
    (five_writes c.args.out.now (spelled keyword.Row) (number_text c.args.left) (joined number_text ahead) (joined ranked_text rights) (10 ∷ [])
    c.in_ok-print_keyword.ensures c.in_ok-print_number.ensures c.in_ok-print_numbers.ensures c.in_ok-print_all.ensures c.in_ok-push.ensures.ok)
