use Rattle.std.proofs.Common.{rules, ◌≡◌, ◌↔◌, ℕ, List, [], length, ap, ◌∙◌, ◌<◌, inl, inr}
use Rattle.std.specs.Prelude.{IsTrue}
use Rattle.auto_core.specs.Automaton.{Automaton}
use Rattle.auto_core.specs.Graph as words
use Rattle.auto_core.specs.Outcome.{At}
use Rattle.auto_core.specs.Rows.{HasBit}
use Rattle.graph_rows.specs.Block.{block_graph}
use Rattle.auto_laws.proofs.PlaceLemmas.{read_at}
use Rattle.lasso_test.proofs.LoopLemmas.{lassos_enter_loops}
use Rattle.shared_graphs.specs.declared.glimpses.Glimpse.{Glimpse}
use Rattle.shared_graphs.specs.Graphs.{block_at}
use Rattle.shared_graphs.proofs.glimpses.told.Goals as goal

pub returns : goal.returns
returns c =
    let B : Automaton = c.args.second.now in
    let graphs : List (List ℕ) = c.args.graphs.now.items in
    let g : words.Graph = block_graph B.states (block_at graphs c.args.g) in
    let h : words.Graph = block_graph B.states (block_at graphs c.args.h) in
    let x : Glimpse = c.index-glimpses-h.result in
    let within : c.args.h < length c.args.glimpses.now = search rules in
    let here : At c.args.glimpses.now c.args.h x = read_at c.args.glimpses.now c.args.h x x within c.index-glimpses-h.is in
    let full : x.row.items ≡ [] → ⊥ = λ e. c.if-len-eq0.false (c.len.ensures ∙ x.row.ok.0 ∙ ap length e) in
    let told : IsTrue c.enters.result ↔ ((q : ℕ) × g.joined B.initial q × HasBit x.row.items q) = search rules in
    elim (c.requires.glimpses c.args.h x here).1.row [
      | inl none ↦ absurd (full none)
      | inr row ↦
          let law = lassos_enter_loops g h B.initial x.row.items c.requires.second.within row.marks in
          (λ holds. law.0 (told.0 holds), λ lasso. told.1 (law.1 lasso))
    ]
