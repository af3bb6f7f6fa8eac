use Rattle.cert_line.proofs.StraightLemmas.{next_is}
use Rattle.cert_line.proofs.straight.next_number.Goals as goal

pub returns-in-Some : goal.returns-in-Some
returns-in-Some c = next_is c.number_of.result c.in-Some.token.now c.args.tokens.now c.next.new.self c.number_of.ensures c.in-Some.ensures.token
