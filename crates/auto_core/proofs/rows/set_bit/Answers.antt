use Rattle.auto_core.proofs.BitLemmas.{set_here, set_others}
use Rattle.auto_core.proofs.rows.set_bit.Goals as goal

pub returns-clause-here : goal.returns-clause-here
returns-clause-here c = set_here c.args.row.now c.args.bit c.requires

pub returns-clause-others : goal.returns-clause-others
returns-clause-others c = set_others c.args.row.now c.args.bit c.requires
