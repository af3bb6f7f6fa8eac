use Rattle.std.proofs.Common.{ℕ, ◌≡◌, ◌<◌, true, List, IfOk, sym, ap, ◌∙◌, subst}
use Rattle.auto_core.specs.Graph.{WordArc, start_arc, base_arc, extended_arc, arc_at, arc_of}
use Rattle.auto_core.specs.Automaton.{trans_at}
use Rattle.auto_core.specs.declared.parts.Mode.{Mode}
use Rattle.auto_core.specs.declared.parts.Mode.TheVariants.{Buchi, Finite}
use Rattle.auto_core.specs.declared.parts.Origin.{Origin}
use Rattle.shared_graphs.specs.declared.graphs.Graphs.{Graphs}
use Rattle.shared_graphs.specs.Graphs.{block_at}
use Rattle.cert_value.specs.WellFormed.{is_origin}
use Rattle.cert_check.specs.Inclusion.{element_arcs, HasEarlierParent, GoesOn}
use Rattle.cert_check.specs.Supers.{IsStockIn, StandFor, IsGraphNumbered}
use Rattle.cert_check.specs.declared.blocks.Numbered.{Numbered}
use Rattle.cert_check.proofs.PlaceLemmas.{is_finite, is_buchi}
use Rattle.cert_check.proofs.SuperLemmas.{if_ok_as}
use Rattle.cert_check.proofs.elements.compute.Goals as goal
use Rattle.cert_check.proofs.elements.compute.Goals.{After-element-parent}

-- What the block of the parent stands for.
parent_stands : (c : goal.After-element-parent) → StandFor c.args.mode c.args.first.now c.args.second.now c.element-parent.result.arc (block_at c.args.supers.now.graphs.graphs.items c.element-parent.result.number) (arc_at c.args.first.now (element_arcs c.args.first.now c.args.elements.now) c.in-Next.p)
parent_stands c =
    let p : ℕ = c.in-Next.p in
    let earlier : p < c.args.e = subst (λ (o : Origin). HasEarlierParent c.args.e o) c.in-Next.is c.requires.earlier in
    subst (λ (n : Numbered). StandFor c.args.mode c.args.first.now c.args.second.now n.arc (block_at c.args.supers.now.graphs.graphs.items n.number) (arc_at c.args.first.now (element_arcs c.args.first.now c.args.elements.now) p)) (sym c.element-parent.ensures)
    (c.requires.supers.each p earlier)

pub start-requires : goal.start-requires
start-requires c =
    let m : Mode = c.args.mode in
    let fin : m ≡ Finite = is_finite m (subst (λ (o : Origin). is_origin m o ≡ true) c.in-Start.is c.requires.begun) in
    subst (λ (k : Mode). IsStockIn k c.args.second.now c.args.supers.now.graphs) fin c.requires.supers.stock

pub base-requires-clause-stock : goal.base-requires-clause-stock
base-requires-clause-stock c =
    let m : Mode = c.args.mode in
    let buchi : m ≡ Buchi = is_buchi m c.in-Base.t (subst (λ (o : Origin). is_origin m o ≡ true) c.in-Base.is c.requires.begun) in
    subst (λ (k : Mode). IsStockIn k c.args.second.now c.args.supers.now.graphs) buchi c.requires.supers.stock

pub returns-in-Start-clause-numbered : goal.returns-in-Start-clause-numbered
returns-in-Start-clause-numbered c =
    let A = c.args.first.now in
    let B = c.args.second.now in
    let m : Mode = c.args.mode in
    let W : List WordArc = element_arcs A c.args.elements.now in
    let fin : m ≡ Finite = is_finite m (subst (λ (o : Origin). is_origin m o ≡ true) c.in-Start.is c.requires.begun) in
    subst (λ (o : Origin). IfOk c.start.result (IsGraphNumbered m A B c.args.supers.now.graphs c.start.new.graphs (arc_of A W o))) (sym c.in-Start.is)
    (subst (λ (k : Mode). IfOk c.start.result (IsGraphNumbered k A B c.args.supers.now.graphs c.start.new.graphs (start_arc A))) (sym fin) c.start.ensures)

pub returns-in-Base-clause-numbered : goal.returns-in-Base-clause-numbered
returns-in-Base-clause-numbered c =
    let A = c.args.first.now in
    let B = c.args.second.now in
    let m : Mode = c.args.mode in
    let W : List WordArc = element_arcs A c.args.elements.now in
    let t : ℕ = c.in-Base.t in
    let buchi : m ≡ Buchi = is_buchi m t (subst (λ (o : Origin). is_origin m o ≡ true) c.in-Base.is c.requires.begun) in
    subst (λ (o : Origin). IfOk c.base.result (IsGraphNumbered m A B c.args.supers.now.graphs c.base.new.graphs (arc_of A W o))) (sym c.in-Base.is)
    (subst (λ (k : Mode). IfOk c.base.result (IsGraphNumbered k A B c.args.supers.now.graphs c.base.new.graphs (base_arc A (trans_at A t)))) (sym buchi) c.base.ensures)

pub extend-requires-clause-leaves : goal.extend-requires-clause-leaves
extend-requires-clause-leaves c =
    let parent = parent_stands (goal.at.extend-requires-clause-leaves c).After-element-parent in
    let goes : (trans_at c.args.first.now c.in-Next.t).source ≡ (arc_at c.args.first.now (element_arcs c.args.first.now c.args.elements.now) c.in-Next.p).to = subst (GoesOn c.args.first.now (element_arcs c.args.first.now c.args.elements.now)) c.in-Next.is c.requires.leaves in
    goes ∙ sym (ap (λ (z : WordArc). z.to) parent.arc)

pub extend-requires-clause-formed : goal.extend-requires-clause-formed
extend-requires-clause-formed c = (parent_stands (goal.at.extend-requires-clause-formed c).After-element-parent).formed

pub returns-in-Next-clause-numbered : goal.returns-in-Next-clause-numbered
returns-in-Next-clause-numbered c =
    let A = c.args.first.now in
    let B = c.args.second.now in
    let m : Mode = c.args.mode in
    let W : List WordArc = element_arcs A c.args.elements.now in
    let p : ℕ = c.in-Next.p in
    let t : ℕ = c.in-Next.t in
    let parent = parent_stands (goal.at.returns-in-Next-clause-numbered c).After-element-parent in
    let old : Graphs = c.args.supers.now.graphs in
    let new : Graphs = c.extend.new.graphs in
    subst (λ (o : Origin). IfOk c.extend.result (IsGraphNumbered m A B old new (arc_of A W o))) (sym c.in-Next.is)
    (if_ok_as c.extend.result
    (λ it. (x : WordArc) → StandFor m A B c.element-parent.result.arc (block_at old.graphs.items c.element-parent.result.number) x → IsGraphNumbered m A B old new (extended_arc A x (trans_at A t)) it)
    (IsGraphNumbered m A B old new (extended_arc A (arc_at A W p) (trans_at A t)))
    (λ it is. is (arc_at A W p) parent) c.extend.ensures)
