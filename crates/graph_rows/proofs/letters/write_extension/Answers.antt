use Rattle.std.proofs.Common.{ℕ, ◌*◌, ◌<◌, ◌≤◌, sym, arith, subst, rules}
use Rattle.graph_rows.specs.Added.{HasAdded}
use Rattle.graph_rows.proofs.TwinLemmas.{copy_added, none_joined, none_past, twin_joined, twin_past}
use Rattle.auto_core.specs.Graph.{extended, graph_of_tables}
use Rattle.graph_rows.proofs.AddedLemmas.{added_none}
use Rattle.graph_rows.proofs.RowsLemmas.{rows_more}
use Rattle.graph_rows.proofs.ExtensionLemmas.{written_joined, written_past, written_graph}
use Rattle.graph_rows.proofs.letters.write_extension.Goals as goal
use Rattle.graph_rows.proofs.letters.write_extension.Goals.{then-has_arc+then-other-state, then-has_arc+else-other-state, else-has_arc}

pub loop-state-preserved : goal.loop-state-preserved
loop-state-preserved c =
    let A = c.args.automaton.now in
    let w : ℕ = c.args.width in
    let s : ℕ = c.loop-state.state in
    let room : A.states ≤ w * 64 = c.requires.from_joined.room in
    let s_in : s < A.states = omega arith in
    let g = extended A (graph_of_tables c.args.from_joined.now c.args.from_past.now A.states w) c.args.label in
    elim c.if-has_arc.branch [
      | then-has_arc+then-other-state v ↦
          let o : ℕ = v.twin_of-other.result in
          let before : o < s = omega (arith, v.if-other-state.true) in
          let o_in : o < A.states = omega arith in (
            rows_more w s g.joined c.loop-state.joined c.if-has_arc.joined c.loop-state.invariant.0
                (subst (HasAdded w s (g.joined s) c.loop-state.joined) (sym v.joined-is)
                (copy_added w s o g.joined c.loop-state.joined v.copy_row.new.table before c.loop-state.invariant.0
                (twin_joined A c.args.from_joined.now c.args.from_past.now w c.args.label s o room s_in o_in v.twin_of-other.ensures.joined)
                v.copy_row.ensures.here v.copy_row.ensures.others)),
            rows_more w s g.past c.loop-state.past c.if-has_arc.past c.loop-state.invariant.1
                (subst (HasAdded w s (g.past s) c.loop-state.past) (sym v.past-is)
                (copy_added w s o g.past c.loop-state.past v.copy_row-then-other-state.new.table before c.loop-state.invariant.1
                (twin_past A c.args.from_joined.now c.args.from_past.now w c.args.label s o room s_in o_in v.twin_of-other.ensures.joined v.twin_of-other.ensures.past)
                v.copy_row-then-other-state.ensures.here v.copy_row-then-other-state.ensures.others)),
          )
      | then-has_arc+else-other-state v ↦ (
        rows_more w s g.joined c.loop-state.joined c.if-has_arc.joined c.loop-state.invariant.0
            (subst (HasAdded w s (g.joined s) c.loop-state.joined) (sym v.joined-is) v.add_row.ensures.joined),
        rows_more w s g.past c.loop-state.past c.if-has_arc.past c.loop-state.invariant.1
            (subst (HasAdded w s (g.past s) c.loop-state.past) (sym v.past-is) v.add_row.ensures.past),
      )
      | else-has_arc u ↦
          let empty = c.has_arc.ensures u.if-has_arc.false in (
            rows_more w s g.joined c.loop-state.joined c.if-has_arc.joined c.loop-state.invariant.0
                (subst (HasAdded w s (g.joined s) c.loop-state.joined) (sym u.joined-is)
                (added_none w s (g.joined s) c.loop-state.joined (none_joined A c.args.from_joined.now c.args.from_past.now w c.args.label s room empty))),
            rows_more w s g.past c.loop-state.past c.if-has_arc.past c.loop-state.invariant.1
                (subst (HasAdded w s (g.past s) c.loop-state.past) (sym u.past-is)
                (added_none w s (g.past s) c.loop-state.past (none_past A c.args.from_joined.now c.args.from_past.now w c.args.label s room c.requires.within empty))),
          )
    ]

pub add_row-requires-clause-empty : goal.add_row-requires-clause-empty
add_row-requires-clause-empty c = λ q q_in. c.loop-state.invariant.1.empty c.loop-state.state q (omega arith) q_in

pub returns-clause-joined : goal.returns-clause-joined
returns-clause-joined c =
    written_joined c.args.automaton.now c.states-state-end.ensures.valid c.args.from_joined.now c.args.from_past.now c.loop-state.joined c.loop-state.past c.args.width c.args.label
    c.loop-state.state c.requires.from_joined.room (omega arith) c.loop-state.invariant.0 c.loop-state.invariant.1 (search rules)

pub returns-clause-past : goal.returns-clause-past
returns-clause-past c =
    written_past c.args.automaton.now c.states-state-end.ensures.valid c.args.from_joined.now c.args.from_past.now c.loop-state.joined c.loop-state.past c.args.width c.args.label
    c.loop-state.state c.requires.from_joined.room (omega arith) c.loop-state.invariant.0 c.loop-state.invariant.1 (search rules)

pub returns-clause-graph : goal.returns-clause-graph
returns-clause-graph c =
    written_graph c.args.automaton.now c.states-state-end.ensures.valid c.args.from_joined.now c.args.from_past.now c.loop-state.joined c.loop-state.past c.args.width c.args.label
    c.loop-state.state c.requires.from_joined.room (omega arith) c.loop-state.invariant.0 c.loop-state.invariant.1
