use Rattle.cert_value.specs.Tokens.{tokens_of}
use Rattle.cert_line.proofs.StraightLemmas.{origin_straight}
use Rattle.cert_line.proofs.straight.straight_origin.Goals as goal

pub returns : goal.returns
returns c = origin_straight c.args.mode c.origin_in_all.result (tokens_of c.args.line.now) c.of.result c.of.ensures c.origin_in_all.ensures
