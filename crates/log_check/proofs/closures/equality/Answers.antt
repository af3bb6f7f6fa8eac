use Rattle.log_check.proofs.ClosureLemmas.{closure_of_none}
use Rattle.log_check.proofs.closures.equality.Goals as goal

pub returns : goal.returns
returns c = closure_of_none c.args.states c.in_ok-rel.rel c.close.new.self c.in_ok-rel.ensures c.close.ensures.closed
