use Rattle.std.proofs.Common.{◌<◌, ◌++◌, drop, length, length-drop, append-nil, ap, sym, ◌∙◌, arith}
use Rattle.cert_line.proofs.PairLemmas.{two_short}
use Rattle.cert_line.proofs.lines.by_two.Goals as goal

pub returns : goal.returns
returns g c =
    let ns = c.args.numbers.now in
    let left = drop c.loop-at.at ns in
    let few : length left < 2 = omega (arith, length-drop c.loop-at.at ns) in
    sym (append-nil c.loop-at.pairs) ∙ ap (λ x. c.loop-at.pairs ++ x) (sym (two_short g.T.Pair.of left few)) ∙ c.loop-at.invariant.0
