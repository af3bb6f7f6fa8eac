use Rattle.std.proofs.Common.{◌≡◌, ◌+◌, ◌∙◌}
use Rattle.std.proofs.lemmas.Result.{IfOk-weaker}
use Rattle.auto_core.specs.Build.{IsBuilt}
use Rattle.cross_sim.specs.Sides.{IsSideBySide}
use Rattle.cross_sim.proofs.SideLemmas.{both_transitions, both_accepting, transitions_given, accepting_given, both_parts, both_built}
use Rattle.cross_sim.proofs.simulation.side_by_side.Goals as goal

pub of_parts-requires : goal.of_parts-requires
of_parts-requires c =
    let A = c.args.first.now in
    let B = c.args.second.now in
    let transitions : c.deref.result.now ≡ both_transitions A B =
    c.deref.ensures.value ∙ transitions_given A B c.states-offset.result c.new-transitions.result.items c.add_shifted.new.made.items c.add_shifted-2.new.made.items c.states-offset.ensures.count c.new-transitions.ensures.items c.in_ok-add_shifted.ensures c.in_ok-add_shifted-2.ensures in
    let accepting : c.deref-2.result.now ≡ both_accepting A B =
    c.deref-2.ensures.value ∙ accepting_given A B c.states-offset.result c.new-accepting.result.items c.add_accepting.new.made.items c.add_accepting-2.new.made.items c.states-offset.ensures.count c.new-accepting.ensures.items c.in_ok-add_accepting.ensures c.in_ok-add_accepting-2.ensures in
    rw (c.states-offset.ensures.count, c.states.ensures.count, c.labels.ensures.count, c.initial.ensures.state, transitions, accepting)
    (both_parts A B c.states-offset.ensures.valid c.states.ensures.valid c.requires.transitions c.requires.labels)

pub returns : goal.returns
returns c =
    let A = c.args.first.now in
    let B = c.args.second.now in
    let transitions : c.deref.result.now ≡ both_transitions A B =
    c.deref.ensures.value ∙ transitions_given A B c.states-offset.result c.new-transitions.result.items c.add_shifted.new.made.items c.add_shifted-2.new.made.items c.states-offset.ensures.count c.new-transitions.ensures.items c.in_ok-add_shifted.ensures c.in_ok-add_shifted-2.ensures in
    let accepting : c.deref-2.result.now ≡ both_accepting A B =
    c.deref-2.ensures.value ∙ accepting_given A B c.states-offset.result c.new-accepting.result.items c.add_accepting.new.made.items c.add_accepting-2.new.made.items c.states-offset.ensures.count c.new-accepting.ensures.items c.in_ok-add_accepting.ensures c.in_ok-add_accepting-2.ensures in
    IfOk-weaker c.of_parts.result (IsBuilt (A.states + B.states) A.labels A.initial (both_transitions A B) (both_accepting A B)) (IsSideBySide A B)
    (both_built A B c.states-offset.ensures.valid c.states.ensures.valid)
    (rw (c.states-offset.ensures.count, c.states.ensures.count, c.labels.ensures.count, c.initial.ensures.state, transitions, accepting) at c.of_parts.ensures)
