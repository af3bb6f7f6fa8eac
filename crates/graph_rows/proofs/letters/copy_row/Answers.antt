use Rattle.std.proofs.Common.{arith}
use Rattle.auto_core.proofs.CellLemmas.{row_left}
use Rattle.graph_rows.proofs.TwinLemmas.{row_copied}
use Rattle.graph_rows.proofs.letters.copy_row.Goals as goal

pub returns-clause-here : goal.returns-clause-here
returns-clause-here c = row_copied c.args.table.now c.loop-j.table c.args.width c.args.from c.args.to (λ k k_in. c.loop-j.invariant.0 k (omega arith))

pub returns-clause-others : goal.returns-clause-others
returns-clause-others c =
    row_left c.args.table.now c.loop-j.table c.args.width c.args.to
    (λ k k_from. c.loop-j.invariant.1 k (omega arith)) c.loop-j.invariant.2
