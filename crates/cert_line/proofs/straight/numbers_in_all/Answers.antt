use Rattle.std.proofs.Common.{sym, ◌∙◌}
use Rattle.cert_line.proofs.StraightLemmas.{before_more}
use Rattle.cert_line.proofs.straight.numbers_in_all.Goals as goal

pub loop-token-preserved : goal.loop-token-preserved
loop-token-preserved c =
    before_more c.loop-token.values c.push.new.self c.in-Some-number_of.number c.in-Some.token.now c.loop-token.tokens c.next.new.self c.args.all
    c.loop-token.invariant c.in-Some.ensures.token (sym c.number_of.ensures ∙ c.in-Some-number_of.is)
    c.in_ok-push-in-Some-number_of.ensures.ok
