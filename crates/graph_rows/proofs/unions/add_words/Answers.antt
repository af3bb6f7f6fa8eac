use Rattle.std.proofs.Common.{arith}
use Rattle.auto_core.proofs.CellLemmas.{row_left}
use Rattle.graph_rows.proofs.UnionLemmas.{cells_ored, cells_beside}
use Rattle.graph_rows.proofs.unions.add_words.Goals as goal

pub returns-clause-here : goal.returns-clause-here
returns-clause-here g c =
    cells_ored c.args.table.now c.args.words.now c.loop-j.table c.args.width c.args.row c.args.first g.row.N
    (λ k k_in. c.loop-j.invariant.0 k (omega arith))

pub returns-clause-beside : goal.returns-clause-beside
returns-clause-beside g c = λ q q_in.
    cells_beside c.args.table.now c.loop-j.table c.args.width c.args.row c.args.first g.row.N
    (λ k k_from. c.loop-j.invariant.1 k (omega arith)) c.loop-j.invariant.2 q

pub returns-clause-others : goal.returns-clause-others
returns-clause-others g c =
    row_left c.args.table.now c.loop-j.table c.args.width c.args.row
    (λ k k_from. c.loop-j.invariant.1 k (omega arith)) (λ k k_to. c.loop-j.invariant.2 k (omega arith))
