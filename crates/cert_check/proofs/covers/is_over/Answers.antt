use Rattle.std.proofs.Common.{ℕ, ◌≡◌, ◌↔◌, ◌<◌, List, true, IsTrue, length, refl, sym, subst, arith}
use Rattle.auto_core.specs.Graph.{WordArc, arc_at}
use Rattle.auto_core.specs.declared.parts.Mode.{Mode}
use Rattle.shared_graphs.specs.Graphs.{block_at}
use Rattle.log_check.specs.Blocks.{pairs_of}
use Rattle.cert_check.specs.Inclusion.{element_arcs, live_in, SubsumesIn}
use Rattle.cert_check.specs.Supers.{IsBlock, StandFor}
use Rattle.cert_check.specs.declared.blocks.Numbered.{Numbered}
use Rattle.cert_check.proofs.SuperLemmas.{by_same, arcs_count, order_told, order_kept}
use Rattle.cert_check.proofs.covers.is_over.Goals as goal

pub subsumes-requires-clause-first : goal.subsumes-requires-clause-first
subsumes-requires-clause-first c =
    let A = c.args.first.now in
    let B = c.args.second.now in
    let m : Mode = c.args.mode in
    let G : List (List ℕ) = c.args.supers.now.graphs.graphs.items in
    let x : WordArc = arc_at A (element_arcs A c.args.evidence.now.elements) c.args.j in
    let named : StandFor m A B c.element-over.result.arc (block_at G c.element-over.result.number) x =
    subst (λ (n : Numbered). StandFor m A B n.arc (block_at G n.number) x) (sym c.element-over.ensures) (c.requires.supers.each c.args.j c.requires.element) in
    subst (λ n. IsBlock m n (block_at c.args.supers.now.graphs.graphs.items c.element-over.result.number)) (sym c.requires.order.relation.size)
    named.formed

pub subsumes-requires-clause-second : goal.subsumes-requires-clause-second
subsumes-requires-clause-second c =
    let m : Mode = c.args.mode in
    subst (λ n. IsBlock m n (block_at c.args.supers.now.graphs.graphs.items c.args.it.now.number)) (sym c.requires.order.relation.size)
    c.requires.formed

pub subsumes-requires-clause-covers : goal.subsumes-requires-clause-covers
subsumes-requires-clause-covers c =
    order_told c.args.second.now c.args.evidence.now c.args.supers.now.graphs.graphs.items c.args.supers.now.graphs.graphs.items c.args.order.now refl c.requires.order

pub returns-clause-told : goal.returns-clause-told
returns-clause-told c = λ x stands.
    let A = c.args.first.now in
    let B = c.args.second.now in
    let m : Mode = c.args.mode in
    let W : List WordArc = element_arcs A c.args.evidence.now.elements in
    let G : List (List ℕ) = c.args.supers.now.graphs.graphs.items in
    let j : ℕ = c.args.j in
    let live : live_in c.args.evidence.now j ≡ true = c.is_live.ensures.0 c.if-not-is_live.false in
    let named : StandFor m A B c.element-over.result.arc (block_at G c.element-over.result.number) (arc_at A W j) =
    subst (λ (n : Numbered). StandFor m A B n.arc (block_at G n.number) (arc_at A W j)) (sym c.element-over.ensures) (c.requires.supers.each j c.requires.element) in
    let told : IsTrue c.subsumes.result ↔ SubsumesIn m B c.args.order.now.rel.pairs (arc_at A W j) x = c.subsumes.ensures.told A B (arc_at A W j) x (sym c.requires.order.relation.size) named stands in
    let alike = by_same m B c.args.order.now.rel.pairs (pairs_of c.args.evidence.now.order) c.requires.order.relation.pairs (arc_at A W j) x in
    let count : j < length W = omega (arith, c.requires.element, arcs_count A c.args.evidence.now.elements) in (
      λ holds. ((count, live), alike.0 (told.0 holds)),
      λ is. told.1 (alike.1 is.1),
    )

pub returns-clause-order : goal.returns-clause-order
returns-clause-order c =
    order_kept c.args.second.now c.args.evidence.now c.args.supers.now.graphs.graphs.items c.args.supers.now.graphs.graphs.items c.args.order.now c.subsumes.new.order refl
    c.subsumes.ensures.relation c.requires.order c.subsumes.ensures.covers
