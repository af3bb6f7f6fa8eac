use Rattle.auto_core.specs.Graph.{extended, graph_of_tables}
use Rattle.graph_rows.proofs.RowsLemmas.{HasRows}
use Rattle.graph_rows.proofs.moves.extend_rows.Given as goal

abbrev pub invariant-loop-state : goal.invariant-loop-state
invariant-loop-state l =
    HasRows l.width l.state (extended l.automaton (graph_of_tables l.from_joined l.from_past l.automaton.states l.width) l.label).joined l.joined
    × HasRows l.width l.state (extended l.automaton (graph_of_tables l.from_joined l.from_past l.automaton.states l.width) l.label).past l.past
