use Rattle.std.proofs.Common.{ℕ, ◌≡◌, ◌<◌, List, true, length, slice_index_or, sym, ap, ◌∙◌, subst, arith}
use Rattle.std.proofs.lemmas.List.{get_or_default}
use Rattle.auto_core.specs.Automaton.{IsAccepting}
use Rattle.auto_core.specs.Graph.{WordArc, arc_at}
use Rattle.auto_core.specs.declared.parts.Mode.TheVariants.{Finite}
use Rattle.supergraph.specs.declared.arcs.Arc.{Arc}
use Rattle.cert_check.specs.Inclusion.{element_arcs, live_in}
use Rattle.cert_check.specs.Supers.{HasWord, no_arc, held_block}
use Rattle.cert_check.proofs.SuperLemmas.{arcs_count}
use Rattle.cert_check.proofs.passing.passes_alone.Goals as goal

pub returns-else-not-accepting : goal.returns-else-not-accepting
returns-else-not-accepting c =
    let A = c.args.first.now in
    let B = c.args.second.now in
    let e : ℕ = c.args.e in
    let x : WordArc = arc_at A (element_arcs A c.args.evidence.now.elements) e in
    let held = c.requires.supers.each e c.requires.element in
    let is_arc : c.index.result.now ≡ slice_index_or c.args.supers.now.arcs.items e no_arc =
    c.index.ensures ∙ get_or_default c.args.supers.now.arcs.items e c.index.result.now no_arc (omega (arith, c.requires.supers.count, c.requires.element)) in
    let is_block : c.block.result.now ≡ held_block c.args.supers.now e =
    c.block.ensures in
    let word : HasWord Finite B c.block.result.now x.word = subst (λ (l : List ℕ). HasWord Finite B l x.word) (sym is_block) held.word in
    let ends : c.index.result.now.to ≡ x.to = ap (λ (a : Arc). a.to) is_arc ∙ ap (λ (z : WordArc). z.to) held.arc in
    let accepts : IsAccepting A x.to = subst (IsAccepting A) ends (c.accepting.ensures.told.0 c.if-not-accepting.false) in
    let live : live_in c.args.evidence.now e ≡ true = c.is_live.ensures.0 c.if-not-is_live.false in
    let count : e < length (element_arcs A c.args.evidence.now.elements) = omega (arith, c.requires.element, arcs_count A c.args.evidence.now.elements) in (
      λ told. λ _ _. let (q, has, accepting) = c.has_accepting.ensures.0 told in (q, (word q).0 has, accepting),
      λ passes. let (q, is, accepting) = passes (count, live) accepts in c.has_accepting.ensures.1 (q, (word q).1 is, accepting),
    )
