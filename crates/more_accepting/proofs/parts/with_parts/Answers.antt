use Rattle.std.proofs.Common.{◌≡◌}
use Rattle.std.proofs.lemmas.Result.{IfOk-weaker}
use Rattle.auto_core.specs.Build.{IsBuilt}
use Rattle.more_accepting.specs.Making.{HasParts}
use Rattle.more_accepting.proofs.PartLemmas.{are_parts, has_parts}
use Rattle.more_accepting.proofs.parts.with_parts.Goals as goal

pub of_parts-requires : goal.of_parts-requires
of_parts-requires c =
    let A = c.args.automaton.now in
    let g = c.args.accepting.now in
    let list : c.as_slice.result.now ≡ g.list.items = c.as_slice.ensures.value in
    rw (c.states.ensures.count, c.labels.ensures.count, c.initial.ensures.state, list)
    (are_parts A c.args.transitions.now g c.requires.listed c.states.ensures.valid c.requires.transitions c.requires.states)

pub returns : goal.returns
returns c =
    let A = c.args.automaton.now in
    let g = c.args.accepting.now in
    let ts = c.args.transitions.now in
    let list : c.as_slice.result.now ≡ g.list.items = c.as_slice.ensures.value in
    IfOk-weaker c.of_parts.result (IsBuilt A.states A.labels A.initial ts g.list.items) (HasParts A ts g.set.members)
    (λ B built. has_parts A ts g c.requires.listed B built)
    (rw (c.states.ensures.count, c.labels.ensures.count, c.initial.ensures.state, list) at c.of_parts.ensures)
