use Rattle.auto_core.specs.Graph.{letter_graph}
use Rattle.graph_rows.proofs.RowsLemmas.{HasRows}
use Rattle.graph_rows.proofs.letters.write_letter.Given as goal

abbrev pub invariant-loop-state : goal.invariant-loop-state
invariant-loop-state l =
    HasRows l.width l.state (letter_graph l.automaton l.label).joined l.joined
    × HasRows l.width l.state (letter_graph l.automaton l.label).past l.past
