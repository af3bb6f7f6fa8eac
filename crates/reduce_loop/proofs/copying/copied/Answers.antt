use Rattle.std.proofs.Common.{◌≡◌, ◌∙◌}
use Rattle.std.proofs.lemmas.Result.{IfOk-weaker}
use Rattle.auto_core.specs.Build.{IsBuilt}
use Rattle.reduce_loop.proofs.CopyLemmas.{accepting_list, copy_parts, copy_built}
use Rattle.reduce_loop.proofs.copying.copied.Goals as goal

pub of_parts-requires : goal.of_parts-requires
of_parts-requires c =
    let A = c.args.automaton.now in
    let accepting : c.deref.result.now ≡ accepting_list A = c.deref.ensures.value ∙ c.in_ok-accepting.ensures in
    rw (c.states.ensures.count, c.labels.ensures.count, c.initial.ensures.state, c.transitions.ensures.list, accepting) (copy_parts A c.states.ensures.valid)

pub returns-clause-same : goal.returns-clause-same
returns-clause-same c =
    let A = c.args.automaton.now in
    let accepting : c.deref.result.now ≡ accepting_list A = c.deref.ensures.value ∙ c.in_ok-accepting.ensures in
    IfOk-weaker c.of_parts.result (IsBuilt A.states A.labels A.initial A.transitions (accepting_list A)) (λ made. made ≡ A) (λ B b. copy_built A B c.states.ensures.valid b)
    (rw (c.states.ensures.count, c.labels.ensures.count, c.initial.ensures.state, c.transitions.ensures.list, accepting) at c.of_parts.ensures)
