use Rattle.std.proofs.Common.{◌∷◌, []}
use Rattle.cert_value.specs.Text.{spelled}
use Rattle.cert_value.specs.declared.keywords.Keyword.TheVariants as keyword
use Rattle.cert_value.specs.Printed.{joined, gone_text}
use Rattle.cert_value.proofs.TextLemmas.{spaced_gone, three_writes}
use Rattle.cert_value.proofs.printed_parts.print_gone.Goals as goal

pub returns : goal.returns
returns c =
    rw (spaced_gone c.args.gone.now)
    (three_writes c.args.out.now (spelled keyword.Gone) (joined gone_text c.args.gone.now) (10 ∷ [])
    c.in_ok-print_keyword.ensures c.in_ok-print_all.ensures c.in_ok-push.ensures.ok)
