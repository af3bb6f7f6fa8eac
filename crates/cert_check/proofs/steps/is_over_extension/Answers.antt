use Rattle.std.proofs.Common.{length, refl, sym, ap, ◌∙◌, subst}
use Rattle.auto_core.specs.Automaton.{trans_at}
use Rattle.auto_core.specs.Graph.{WordArc, arc_at, extended_arc}
use Rattle.shared_graphs.specs.Graphs.{block_at}
use Rattle.cert_check.specs.Inclusion.{element_arcs}
use Rattle.cert_check.specs.Supers.{StandFor, IsGraphNumbered}
use Rattle.cert_check.specs.declared.blocks.Numbered.{Numbered}
use Rattle.cert_check.proofs.SuperLemmas.{supers_grown, order_grown}
use Rattle.cert_check.proofs.steps.is_over_extension.Goals as goal
use Rattle.cert_check.proofs.steps.is_over_extension.Goals.{After-element-from, In_ok-longer}

-- What the block of the element stands for, and that of its extension.
from_stands : (c : goal.After-element-from) → StandFor c.args.mode c.args.first.now c.args.second.now c.element-from.result.arc (block_at c.args.supers.now.graphs.graphs.items c.element-from.result.number) (arc_at c.args.first.now (element_arcs c.args.first.now c.args.evidence.now.elements) c.args.e)
from_stands c =
    subst (λ (n : Numbered). StandFor c.args.mode c.args.first.now c.args.second.now n.arc (block_at c.args.supers.now.graphs.graphs.items n.number) (arc_at c.args.first.now (element_arcs c.args.first.now c.args.evidence.now.elements) c.args.e))
    (sym c.element-from.ensures) (c.requires.supers.each c.args.e c.requires.element)

new_stands : (c : goal.In_ok-longer) → IsGraphNumbered c.args.mode c.args.first.now c.args.second.now c.args.supers.now.graphs c.extend.new.graphs (extended_arc c.args.first.now (arc_at c.args.first.now (element_arcs c.args.first.now c.args.evidence.now.elements) c.args.e) (trans_at c.args.first.now c.args.t)) c.in_ok-longer.longer
new_stands c = c.in_ok-longer.ensures (arc_at c.args.first.now (element_arcs c.args.first.now c.args.evidence.now.elements) c.args.e)
    (subst (λ (n : Numbered). StandFor c.args.mode c.args.first.now c.args.second.now n.arc (block_at c.args.supers.now.graphs.graphs.items n.number) (arc_at c.args.first.now (element_arcs c.args.first.now c.args.evidence.now.elements) c.args.e))
    (sym c.element-from.ensures) (c.requires.supers.each c.args.e c.requires.element))

pub extend-requires-clause-leaves : goal.extend-requires-clause-leaves
extend-requires-clause-leaves c = c.requires.leaves ∙ sym (ap (λ (z : WordArc). z.to) (from_stands (goal.at.extend-requires-clause-leaves c).After-element-from).arc)

pub extend-requires-clause-formed : goal.extend-requires-clause-formed
extend-requires-clause-formed c = (from_stands (goal.at.extend-requires-clause-formed c).After-element-from).formed

pub is_over-requires-clause-supers : goal.is_over-requires-clause-supers
is_over-requires-clause-supers c =
    let new = new_stands (goal.at.is_over-requires-clause-supers c).In_ok-longer in
    supers_grown c.args.mode c.args.first.now c.args.second.now c.args.evidence.now.elements (length c.args.evidence.now.elements) c.args.supers.now _ refl refl new.stock new.grown c.requires.supers

pub is_over-requires-clause-formed : goal.is_over-requires-clause-formed
is_over-requires-clause-formed c = (new_stands (goal.at.is_over-requires-clause-formed c).In_ok-longer).stands.formed

pub returns-clause-told : goal.returns-clause-told
returns-clause-told c =
    c.is_over.ensures.told (extended_arc c.args.first.now (arc_at c.args.first.now (element_arcs c.args.first.now c.args.evidence.now.elements) c.args.e) (trans_at c.args.first.now c.args.t)) (new_stands (goal.at.returns-clause-told c).In_ok-longer).stands

pub returns-clause-supers : goal.returns-clause-supers
returns-clause-supers c =
    let new = new_stands (goal.at.returns-clause-supers c).In_ok-longer in
    supers_grown c.args.mode c.args.first.now c.args.second.now c.args.evidence.now.elements (length c.args.evidence.now.elements) c.args.supers.now _ refl refl new.stock new.grown c.requires.supers

pub is_over-requires-clause-order : goal.is_over-requires-clause-order
is_over-requires-clause-order c =
    order_grown c.args.second.now c.args.evidence.now c.args.supers.now.graphs.graphs.items c.extend.new.graphs.graphs.items c.args.order.now
    (new_stands (goal.at.is_over-requires-clause-order c).In_ok-longer).grown c.requires.order
