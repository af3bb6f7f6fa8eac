use Rattle.auto_core.proofs.BitLemmas.{clear_here, clear_others}
use Rattle.auto_core.proofs.rows.clear_bit.Goals as goal

pub returns-clause-here : goal.returns-clause-here
returns-clause-here c = clear_here c.args.row.now c.args.bit c.requires

pub returns-clause-others : goal.returns-clause-others
returns-clause-others c = clear_others c.args.row.now c.args.bit c.requires
