use Rattle.ba_format.proofs.JoinLemmas.{transitions_made, relabelled_parts}
use Rattle.ba_format.proofs.joining.relabelled.Goals as goal

pub of_parts-requires : goal.of_parts-requires
of_parts-requires c =
    let A = c.args.auto.now in
    let labels = c.args.labels.now in
    let joined = c.args.joined.now in
    let made = transitions_made A labels joined c.states.ensures.valid c.requires.count c.in_ok-numbers.ensures.different c.requires.found c.in_ok-numbers.numbers.items c.deref.result.now c.transitions.result.now c.deref-2.result.now c.in_ok-transitions.transitions.items c.in_ok-numbers.ensures.numbers c.deref.ensures.value c.transitions.ensures.list c.in_ok-transitions.ensures c.deref-2.ensures.value in
    rw (c.states.ensures.count, c.count.ensures.count, c.initial.ensures.state, made, c.deref-3.ensures.value, c.in_ok-accepting.ensures) (
    relabelled_parts A labels joined c.states.ensures.valid c.requires.count c.in_ok-numbers.ensures.different c.requires.found
    )

pub returns : goal.returns
returns c =
    let A = c.args.auto.now in
    let labels = c.args.labels.now in
    let joined = c.args.joined.now in
    let made = transitions_made A labels joined c.states.ensures.valid c.requires.count c.in_ok-numbers.ensures.different c.requires.found c.in_ok-numbers.numbers.items c.deref.result.now c.transitions.result.now c.deref-2.result.now c.in_ok-transitions.transitions.items c.in_ok-numbers.ensures.numbers c.deref.ensures.value c.transitions.ensures.list c.in_ok-transitions.ensures c.deref-2.ensures.value in
    rw (c.states.ensures.count, c.count.ensures.count, c.initial.ensures.state, made, c.deref-3.ensures.value, c.in_ok-accepting.ensures) at c.of_parts.ensures
