use Rattle.std.proofs.Common.{ℕ, rules}
use Rattle.auto_core.specs.Graph.{letter_graph}
use Rattle.graph_rows.proofs.RowsLemmas.{formed_of_planes}
use Rattle.graph_rows.proofs.ExtensionLemmas.{letter_is_graph}
use Rattle.graph_rows.proofs.letters.letter.Goals as goal

pub returns-clause-formed : goal.returns-clause-formed
returns-clause-formed c =
    let A = c.args.automaton.now in
    let n : ℕ = A.states in
    (formed_of_planes n (letter_graph A c.args.label) c.write_letter.new.joined c.write_letter.new.past (letter_is_graph A c.args.label)
    (search rules) (search rules) (search rules) (search rules)).0

pub returns-clause-graph : goal.returns-clause-graph
returns-clause-graph c =
    let A = c.args.automaton.now in
    let n : ℕ = A.states in
    (formed_of_planes n (letter_graph A c.args.label) c.write_letter.new.joined c.write_letter.new.past (letter_is_graph A c.args.label)
    (search rules) (search rules) (search rules) (search rules)).1
