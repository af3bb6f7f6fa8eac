use Rattle.std.proofs.Common.{take}
use Rattle.cert_value.specs.declared.types.FirstStep.{FirstStep}
use Rattle.log_check.specs.FirstLog.{first_rules}
use Rattle.log_check.specs.Follows.{Follows}
use Rattle.log_check.proofs.ends.first_end.Given as goal

abbrev pub invariant-loop-i : goal.invariant-loop-i
invariant-loop-i l = Follows FirstStep (first_rules l.mode) l.automaton l.item (take l.i l.steps) l.end
