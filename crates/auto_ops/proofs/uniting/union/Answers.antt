use Rattle.std.proofs.Common.{sym, ◌∙◌}
use Rattle.auto_ops.proofs.UnionLemmas.{union_parts, union_built, union_small}
use Rattle.auto_ops.proofs.OneLaws.{union_limits}
use Rattle.auto_ops.proofs.uniting.union.Goals as goal

pub of_parts-requires : goal.of_parts-requires
of_parts-requires c =
    let A = c.args.pair.now.first in
    let B = c.args.pair.now.second in
    rw (c.states.ensures.count, c.states-2.ensures.count, c.labels.ensures.count, c.deref.ensures.value, c.deref-2.ensures.value, c.in_ok-transitions.ensures, c.in_ok-accepting.ensures)
    (union_parts A B c.states.ensures.valid c.states-2.ensures.valid c.args.mode (c.requires.first_labels ∙ sym c.requires.second_labels) (c.is_too_large.ensures.no c.if-is_too_large.false))

pub returns-clause-exact : goal.returns-clause-exact
returns-clause-exact c =
    let A = c.args.pair.now.first in
    let B = c.args.pair.now.second in
    union_built A B c.states.ensures.valid c.states-2.ensures.valid c.args.mode c.in_ok-built.built
    (rw (c.states.ensures.count, c.states-2.ensures.count, c.labels.ensures.count, c.deref.ensures.value, c.deref-2.ensures.value, c.in_ok-transitions.ensures, c.in_ok-accepting.ensures) at c.in_ok-built.ensures)

pub returns-clause-within : goal.returns-clause-within
returns-clause-within c =
    let A = c.args.pair.now.first in
    let B = c.args.pair.now.second in
    union_small A B c.states.ensures.valid c.states-2.ensures.valid c.args.mode c.in_ok-built.built (c.is_too_large.ensures.no c.if-is_too_large.false)
    (rw (c.states.ensures.count, c.states-2.ensures.count, c.labels.ensures.count, c.deref.ensures.value, c.deref-2.ensures.value, c.in_ok-transitions.ensures, c.in_ok-accepting.ensures) at c.in_ok-built.ensures)

pub returns-clause-not_too_large : goal.returns-clause-not_too_large
returns-clause-not_too_large c =
    let A = c.args.pair.now.first in
    let B = c.args.pair.now.second in
    let exact = union_built A B c.states.ensures.valid c.states-2.ensures.valid c.args.mode c.in_ok-built.built (rw (c.states.ensures.count, c.states-2.ensures.count, c.labels.ensures.count, c.deref.ensures.value, c.deref-2.ensures.value, c.in_ok-transitions.ensures, c.in_ok-accepting.ensures) at c.in_ok-built.ensures) in
    let small = union_small A B c.states.ensures.valid c.states-2.ensures.valid c.args.mode c.in_ok-built.built (c.is_too_large.ensures.no c.if-is_too_large.false) (rw (c.states.ensures.count, c.states-2.ensures.count, c.labels.ensures.count, c.deref.ensures.value, c.deref-2.ensures.value, c.in_ok-transitions.ensures, c.in_ok-accepting.ensures) at c.in_ok-built.ensures) in
    λ too_large. union_limits c.args.mode A B c.in_ok-built.built exact too_large small
