use Rattle.std.proofs.Common.{rules, arith, ℕ, ◌≡◌, ◌<◌, ◌↔◌, IsTrue, List, Vec, Global, length, subst}
use Rattle.auto_core.specs.Automaton.{Automaton}
use Rattle.auto_core.specs.Graph as words
use Rattle.auto_core.specs.Rows.{HasBit}
use Rattle.graph_rows.specs.Block.{block_graph}
use Rattle.lasso_test.proofs.LoopLemmas.{lassos_enter_loops}
use Rattle.shared_graphs.specs.Graphs.{block_at}
use Rattle.shared_graphs.specs.Looping.{IsLoopRow}
use Rattle.evidence.specs.Tables.{numbers_at}
use Rattle.evidence.proofs.TableLemmas.{numbers_is}
use Rattle.cert_check.proofs.pairs.has_lasso.Goals as goal

pub returns-clause-told : goal.returns-clause-told
returns-clause-told c =
    let B : Automaton = c.args.second.now in
    let g : words.Graph = block_graph B.states c.args.block.now in
    let h : words.Graph = block_graph B.states (block_at c.args.graphs.now.items c.args.h) in
    let loops : List (Vec ℕ Global) = c.mark_loops.new.loops.items in
    let row : List ℕ = c.index.result.now.items in
    let within : c.args.h < length loops = omega (arith, c.requires.there, c.mark_loops.ensures.size) in
    let is : numbers_at loops c.args.h ≡ row = numbers_is loops c.args.h c.index.result.now within c.index.ensures in
    let here : IsLoopRow B.states h (numbers_at loops c.args.h) =
    subst (λ n. IsLoopRow n (block_graph n (block_at c.args.graphs.now.items c.args.h)) (numbers_at loops c.args.h)) c.states-states.ensures.count c.in_ok-mark_loops.ensures.here in
    let marks : IsLoopRow B.states h row = subst (IsLoopRow B.states h) is here in
    let told : IsTrue c.enters.result ↔ ((q : ℕ) × g.joined B.initial q × HasBit row q) = search rules in
    let law = lassos_enter_loops g h B.initial row c.requires.other.within marks.marks in
    (λ holds. law.0 (told.0 holds), λ lasso. told.1 (law.1 lasso))
