use Rattle.std.proofs.Common.{◌↔◌, IsTrue, List, ℕ, sym, subst}
use Rattle.auto_core.specs.Game.{Holds}
use Rattle.auto_core.specs.Graph.{Subsumes}
use Rattle.auto_core.specs.declared.parts.Mode.{Mode}
use Rattle.auto_core.specs.declared.parts.Mode.TheVariants.{Buchi, Finite}
use Rattle.graph_rows.specs.Block.{block_graph}
use Rattle.shared_graphs.specs.Graphs.{block_at}
use Rattle.supergraph.specs.Stands.{with_graph}
use Rattle.cert_check.specs.Inclusion.{SubsumesIn}
use Rattle.cert_check.specs.Supers.{StandFor}
use Rattle.cert_check.proofs.SuperLemmas.{graphs_alike}
use Rattle.cert_check.proofs.blocks.subsumes.Goals as goal

pub returns-in-Buchi-clause-told : goal.returns-in-Buchi-clause-told
returns-in-Buchi-clause-told c = λ A B v w size s t.
    let S : List (ℕ × ℕ) = c.args.order.now.rel.pairs in
    let x = c.args.x.now.arc in
    let y = c.args.y.now.arc in
    let g : List ℕ = block_at c.args.graphs.now.items c.args.x.now.number in
    let h : List ℕ = block_at c.args.graphs.now.items c.args.y.now.number in
    let from : StandFor Buchi A B x g v = subst (λ (m : Mode). StandFor m A B x g v) c.in-Buchi.is s in
    let to : StandFor Buchi A B y h w = subst (λ (m : Mode). StandFor m A B y h w) c.in-Buchi.is t in
    let asked : IsTrue c.subsumes.result ↔ Subsumes (Holds S) (with_graph x (block_graph B.states g)) (with_graph y (block_graph B.states h)) =
    subst (λ n. IsTrue c.subsumes.result ↔ Subsumes (Holds S) (with_graph x (block_graph n g)) (with_graph y (block_graph n h))) (sym size) c.subsumes.ensures.subsumes in
    let alike = graphs_alike A B S x y g h v w from to in
    subst (λ (m : Mode). IsTrue c.subsumes.result ↔ SubsumesIn m B S v w) (sym c.in-Buchi.is) (λ told. alike.0 (asked.0 told), λ is. asked.1 (alike.1 is))

pub returns-in-Finite-clause-told : goal.returns-in-Finite-clause-told
returns-in-Finite-clause-told c = λ A B v w size s t.
    let S : List (ℕ × ℕ) = c.args.order.now.rel.pairs in
    let x = c.args.x.now.arc in
    let y = c.args.y.now.arc in
    let g : List ℕ = block_at c.args.graphs.now.items c.args.x.now.number in
    let h : List ℕ = block_at c.args.graphs.now.items c.args.y.now.number in
    let from : StandFor Finite A B x c.block.result.now v =
    subst (λ b. StandFor Finite A B x b v) (sym c.block.ensures) (subst (λ (m : Mode). StandFor m A B x g v) c.in-Finite.is s) in
    let to : StandFor Finite A B y c.block-in-Finite.result.now w =
    subst (λ b. StandFor Finite A B y b w) (sym c.block-in-Finite.ensures) (subst (λ (m : Mode). StandFor m A B y h w) c.in-Finite.is t) in
    subst (λ (m : Mode). IsTrue c.subsumes_set.result ↔ SubsumesIn m B S v w) (sym c.in-Finite.is) (c.subsumes_set.ensures A B v w size from to)
