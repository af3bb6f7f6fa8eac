use Rattle.std.proofs.Common.{arith}
use Rattle.delayed_sim.proofs.EntryLemmas.{found_none}
use Rattle.delayed_sim.proofs.entries.find.Goals as goal

pub returns-in-Err-clause-none : goal.returns-in-Err-clause-none
returns-in-Err-clause-none c = found_none c.args.letters c.args.entries.now c.args.left c.args.ahead.now c.args.right c.in-Err._at c.in-Err._at c.in-Err.ensures.gap (omega arith)
