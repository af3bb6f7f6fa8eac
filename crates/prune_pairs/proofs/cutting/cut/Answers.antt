use Rattle.std.proofs.Common.{◌≡◌, ◌∙◌, filter}
use Rattle.std.specs.List.{range_with_len}
use Rattle.std.proofs.lemmas.Result.{IfOk-weaker}
use Rattle.auto_core.specs.Automaton.{is_accepting}
use Rattle.auto_core.specs.Build.{IsBuilt}
use Rattle.auto_core.specs.Pruning.{IsCut}
use Rattle.prune_pairs.specs.Staying.{staying_transitions}
use Rattle.prune_pairs.proofs.CutLemmas.{cut_parts, cut_built}
use Rattle.prune_pairs.proofs.cutting.cut.Goals as goal

pub of_parts-requires : goal.of_parts-requires
of_parts-requires c =
    let A = c.args.automaton.now in
    let gone = c.args.gone.now in
    let transitions : c.deref.result.now ≡ staying_transitions A gone = c.deref.ensures.value ∙ c.in_ok-transitions.ensures in
    let accepting : c.deref-2.result.now ≡ filter (is_accepting A) (range_with_len 0 A.states) = c.deref-2.ensures.value ∙ c.in_ok-accepting.ensures in
    rw (c.states.ensures.count, c.labels.ensures.count, c.initial.ensures.state, transitions, accepting) (cut_parts A gone c.states.ensures.valid)

pub returns : goal.returns
returns c =
    let A = c.args.automaton.now in
    let gone = c.args.gone.now in
    let transitions : c.deref.result.now ≡ staying_transitions A gone = c.deref.ensures.value ∙ c.in_ok-transitions.ensures in
    let accepting : c.deref-2.result.now ≡ filter (is_accepting A) (range_with_len 0 A.states) = c.deref-2.ensures.value ∙ c.in_ok-accepting.ensures in
    IfOk-weaker c.of_parts.result (IsBuilt A.states A.labels A.initial (staying_transitions A gone) (filter (is_accepting A) (range_with_len 0 A.states))) (IsCut A gone)
    (λ B built. cut_built A gone c.states.ensures.valid B built)
    (rw (c.states.ensures.count, c.labels.ensures.count, c.initial.ensures.state, transitions, accepting) at c.of_parts.ensures)
