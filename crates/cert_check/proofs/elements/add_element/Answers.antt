use Rattle.std.proofs.Common.{ℕ, ◌≡◌, ◌+◌, ◌++◌, [], ◌∷◌, List, Vec, Global, length, map, slice_index_or, sym, ap, ◌∙◌, subst, arith}
use Rattle.std.proofs.lemmas.List.{get_or-map, length-map}
use Rattle.auto_core.specs.Graph.{WordArc, arc_at, arc_of}
use Rattle.auto_core.specs.declared.parts.Mode.{Mode}
use Rattle.auto_core.specs.declared.parts.Origin.{Origin}
use Rattle.auto_core.specs.declared.parts.Origin.TheVariants.{Start}
use Rattle.cert_value.specs.declared.types.Element.{Element}
use Rattle.cert_check.specs.Inclusion.{element_arcs, no_element}
use Rattle.supergraph.specs.declared.arcs.Arc.{Arc}
use Rattle.shared_graphs.specs.declared.graphs.Graphs.{Graphs}
use Rattle.cert_check.specs.Supers.{IsGraphNumbered, AreSupers}
use Rattle.cert_check.specs.declared.blocks.Numbered.{Numbered}
use Rattle.cert_check.specs.declared.elements.Supers.{Supers}
use Rattle.cert_check.proofs.PlaceLemmas.{IsPlacedIn, placed_one, arc_is_placed}
use Rattle.cert_check.proofs.SuperLemmas.{supers_more, if_ok_both}
use Rattle.cert_check.proofs.elements.add_element.Goals as goal

pub returns : goal.returns
returns c =
    let A = c.args.first.now in
    let B = c.args.second.now in
    let m : Mode = c.args.mode in
    let E : List Element = c.args.elements.now in
    let W : List WordArc = element_arcs A E in
    let e : ℕ = c.args.e in
    let o : Origin = c.args.origin.now in
    let is : slice_index_or (map (λ (x : Element). x.origin) E) e Start ≡ o = get_or-map (λ (x : Element). x.origin) E e no_element Start c.requires.element ∙ sym c.requires.is in
    let here : IsPlacedIn m A W e o = placed_one m A W (length E) e o c.requires.begun c.requires.names c.requires.earlier c.requires.leaves in
    let arc : arc_at A W e ≡ arc_of A W o =
    arc_is_placed m A (map (λ (x : Element). x.origin) E) e o (omega (arith, c.requires.element, length-map E (λ (x : Element). x.origin))) is here in
    let it : Numbered = c.in_ok-numbered.numbered in
    let old : Supers = c.args.supers.now in
    let now : Supers = c.add.new.supers in
    let made : IsGraphNumbered m A B old.graphs c.compute.new.supers.graphs (arc_at A W e) it =
    subst (λ (x : WordArc). IsGraphNumbered m A B old.graphs c.compute.new.supers.graphs x it) (sym arc) c.in_ok-numbered.ensures.numbered in
    let kept : IsGraphNumbered m A B old.graphs now.graphs (arc_at A W e) it =
    subst (λ (g : Graphs). IsGraphNumbered m A B old.graphs g (arc_at A W e) it) (sym c.add.ensures.graphs) made in
    if_ok_both c.add.result
    (now.arcs.items ≡ c.compute.new.supers.arcs.items ++ it.arc ∷ [])
    (now.numbers.items ≡ c.compute.new.supers.numbers.items ++ it.number ∷ [])
    (AreSupers m A B E (e + 1) now)
    (λ arcs numbers. supers_more m A B E e old now it
    (arcs ∙ ap (λ (v : Vec Arc Global). v.items ++ it.arc ∷ []) c.compute.ensures.arcs)
    (numbers ∙ ap (λ (v : Vec ℕ Global). v.items ++ it.number ∷ []) c.compute.ensures.numbers)
    c.requires.supers kept)
    c.add.ensures.arcs c.add.ensures.numbers
