use Rattle.std.proofs.Common.{◌↔◌, ◌<◌, rules}
use Rattle.auto_core.specs.Graph.{Graph}
use Rattle.auto_core.specs.Rows.{HasBit}
use Rattle.graph_rows.specs.Block.{block_graph}
use Rattle.bit_rows.specs.Loops.{LeadsToLoop}
use Rattle.lasso_test.proofs.LoopLemmas.{leads_as_loop}
use Rattle.lasso_test.proofs.passing.mark_looping.Goals as goal

pub returns-clause-marked : goal.returns-clause-marked
returns-clause-marked c = λ q.
    let h : Graph = block_graph c.args.n c.args.h.now in
    let is : HasBit c.mark_loops.new.looping q ↔ ((q < c.args.n) × LeadsToLoop h.joined h.past q) = search rules in
    let law = leads_as_loop h c.args.n q (record { joined = λ p r arc. arc.0; past = λ p r arc. arc.0 }) in
    (λ has. law.0 (is.0 has), λ loop. is.1 (law.1 loop))
