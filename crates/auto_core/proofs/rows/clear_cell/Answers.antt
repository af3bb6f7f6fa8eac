use Rattle.auto_core.proofs.CellLemmas.{cell_cleared}
use Rattle.auto_core.proofs.rows.clear_cell.Goals as goal

pub returns-clause-here : goal.returns-clause-here
returns-clause-here c = (cell_cleared c.args.table.now c.args.width c.args.p c.args.q c.requires.row c.requires.column).0

pub returns-clause-others : goal.returns-clause-others
returns-clause-others c = (cell_cleared c.args.table.now c.args.width c.args.p c.args.q c.requires.row c.requires.column).1
