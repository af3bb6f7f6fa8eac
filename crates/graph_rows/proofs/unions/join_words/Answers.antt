use Rattle.std.proofs.Common.{arith}
use Rattle.graph_rows.proofs.UnionLemmas.{words_ored}
use Rattle.graph_rows.proofs.unions.join_words.Goals as goal

pub returns : goal.returns
returns g c =
    words_ored c.args.into.now c.args.row.now c.loop-j.into c.args.first g.row.N
    (λ k k_in. c.loop-j.invariant.0 k (omega arith))
