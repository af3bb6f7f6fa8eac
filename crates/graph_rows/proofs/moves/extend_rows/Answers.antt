use Rattle.std.proofs.Common.{ℕ, arith, rules}
use Rattle.auto_core.specs.Graph.{extended, graph_of_tables}
use Rattle.graph_rows.proofs.RowsLemmas.{rows_more}
use Rattle.graph_rows.proofs.ExtensionLemmas.{written_joined, written_past, written_graph}
use Rattle.graph_rows.proofs.moves.extend_rows.Goals as goal

pub loop-state-preserved : goal.loop-state-preserved
loop-state-preserved c =
    let A = c.args.automaton.now in
    let w : ℕ = c.args.width in
    let s : ℕ = c.loop-state.state in
    let g = extended A (graph_of_tables c.args.from_joined.now c.args.from_past.now A.states w) c.args.label in (
      rows_more w s g.joined c.loop-state.joined c.extend_row.new.joined c.loop-state.invariant.0 c.extend_row.ensures.joined,
      rows_more w s g.past c.loop-state.past c.extend_row.new.past c.loop-state.invariant.1 c.extend_row.ensures.past,
    )

pub returns-clause-joined : goal.returns-clause-joined
returns-clause-joined c =
    written_joined c.args.automaton.now c.states-state-end.ensures.valid c.args.from_joined.now c.args.from_past.now c.loop-state.joined c.loop-state.past c.args.width c.args.label
    c.loop-state.state c.requires.from_joined.room (omega arith) c.loop-state.invariant.0 c.loop-state.invariant.1 (search rules)

pub returns-clause-past : goal.returns-clause-past
returns-clause-past c =
    written_past c.args.automaton.now c.states-state-end.ensures.valid c.args.from_joined.now c.args.from_past.now c.loop-state.joined c.loop-state.past c.args.width c.args.label
    c.loop-state.state c.requires.from_joined.room (omega arith) c.loop-state.invariant.0 c.loop-state.invariant.1 (search rules)

pub returns-clause-graph : goal.returns-clause-graph
returns-clause-graph c =
    written_graph c.args.automaton.now c.states-state-end.ensures.valid c.args.from_joined.now c.args.from_past.now c.loop-state.joined c.loop-state.past c.args.width c.args.label
    c.loop-state.state c.requires.from_joined.room (omega arith) c.loop-state.invariant.0 c.loop-state.invariant.1
