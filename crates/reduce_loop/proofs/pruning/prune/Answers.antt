use Rattle.std.proofs.Common.{subst}
use Rattle.auto_core.specs.Pruning.{IsCut}
use Rattle.prune_pairs.specs.Least.{numbers_of_gone}
use Rattle.reduce_loop.proofs.PruneLemmas.{pruned_by}
use Rattle.reduce_loop.proofs.pruning.prune.Goals as goal

pub returns-clause-after : goal.returns-clause-after
returns-clause-after c =
    let A = c.args.automaton.now in
    let B = c.in_ok-automaton.automaton in
    pruned_by A c.args.pair c.args.sight.look c.in_ok-back.back c.in_ok-ahead.ahead c.in_ok-back.ensures.back c.in_ok-ahead.ensures.ahead B c.in_ok-gone.gone c.in_ok-gone.ensures
    (subst (λ l. IsCut A (numbers_of_gone l) B) c.as_slice.ensures c.in_ok-automaton.ensures)
