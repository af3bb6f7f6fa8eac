use Rattle.auto_core.proofs.CellLemmas.{cell_set}
use Rattle.auto_core.proofs.rows.set_cell.Goals as goal

pub returns-clause-here : goal.returns-clause-here
returns-clause-here c = (cell_set c.args.table.now c.args.width c.args.p c.args.q c.requires.row c.requires.column).0

pub returns-clause-others : goal.returns-clause-others
returns-clause-others c = (cell_set c.args.table.now c.args.width c.args.p c.args.q c.requires.row c.requires.column).1
