use Rattle.std.proofs.Common.{ℕ, rules}
use Rattle.auto_core.specs.Graph.{extended}
use Rattle.graph_rows.specs.Block.{block_graph}
use Rattle.graph_rows.proofs.RowsLemmas.{formed_of_planes}
use Rattle.graph_rows.proofs.ExtensionLemmas.{extended_is_graph}
use Rattle.graph_rows.proofs.letters.extend_by.Goals as goal

pub returns-clause-formed : goal.returns-clause-formed
returns-clause-formed c =
    let A = c.args.automaton.now in
    let n : ℕ = A.states in
    let g = block_graph n c.args.from.now in
    (formed_of_planes n (extended A g c.args.label) c.write_extension.new.joined c.write_extension.new.past (extended_is_graph A g c.args.label c.requires.formed.within)
    (search rules) (search rules) (search rules) (search rules)).0

pub returns-clause-graph : goal.returns-clause-graph
returns-clause-graph c =
    let A = c.args.automaton.now in
    let n : ℕ = A.states in
    let g = block_graph n c.args.from.now in
    (formed_of_planes n (extended A g c.args.label) c.write_extension.new.joined c.write_extension.new.past (extended_is_graph A g c.args.label c.requires.formed.within)
    (search rules) (search rules) (search rules) (search rules)).1
