use Rattle.std.proofs.Common.{sym, ◌∙◌}
use Rattle.cert_value.specs.Tokens.{tokens_of}
use Rattle.cert_line.proofs.StraightLemmas.{element_straight}
use Rattle.cert_line.proofs.straight.straight_element.Goals as goal

pub returns : goal.returns
returns c =
    let marked = c.in_ok-mark.ensures in
    let from = c.in_ok-origin.ensures in
    element_straight c.args.mode c.in_ok-mark.mark c.in_ok-origin.origin (tokens_of c.args.line.now) c.next_mark.new.tokens
    (sym c.of-tokens.ensures ∙ marked.0) marked.1 from.0 from.1
