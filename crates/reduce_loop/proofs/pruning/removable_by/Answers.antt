use Rattle.std.proofs.lemmas.Result.{IfOk-weaker}
use Rattle.auto_core.specs.Game.{Close, Holds}
use Rattle.prune_pairs.specs.Least.{AreLeastBetter}
use Rattle.reduce_loop.specs.Logs.{pairs_given}
use Rattle.reduce_loop.proofs.PruneLemmas.{least_closed}
use Rattle.reduce_loop.proofs.pruning.removable_by.Goals as goal

pub returns : goal.returns
returns c =
    let A = c.args.automaton.now in
    let n = c.args.pair in
    let back = c.args.back.now in
    let ahead = c.args.ahead.now in
    let closed_back = c.in_ok-closed_back.closed_back in
    let closed_ahead = c.in_ok-closed_ahead.closed_ahead in
    IfOk-weaker c.removable.result (AreLeastBetter A n (Holds closed_back.pairs) (Holds closed_ahead.pairs)) (AreLeastBetter A n (Close (Holds (pairs_given back))) (Close (Holds (pairs_given ahead))))
    (λ gone are. least_closed A n c.args.look back ahead c.requires.back c.requires.ahead closed_back closed_ahead gone c.states-states.ensures.valid c.in_ok-closed_back.ensures c.in_ok-closed_ahead.ensures are) c.removable.ensures
