use Rattle.std.proofs.Common.{◌≡◌, []}
use Rattle.std.proofs.lemmas.Result.{IfOk-weaker}
use Rattle.auto_core.specs.Pruning.{IsCut}
use Rattle.prune_pairs.proofs.OneLaws.{cut_nothing}
use Rattle.log_check.proofs.ends.copied.Goals as goal

pub returns : goal.returns
returns c =
    let A = c.args.automaton.now in
    IfOk-weaker c.cut.result (IsCut A []) (λ copy. copy ≡ A) (λ B is. (cut_nothing A B c.states-states.ensures.valid).0 is) c.cut.ensures
