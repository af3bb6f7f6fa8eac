use Rattle.cert_text.proofs.PieceLemmas.{first_lines}
use Rattle.cert_text.proofs.read.first_line.Goals as goal

pub returns-clause-cut : goal.returns-clause-cut
returns-clause-cut c = first_lines c.args.bytes.now (λ x. x.0.now) (λ x. x.1.now) c.split_line.result c.split_line.ensures.cut
