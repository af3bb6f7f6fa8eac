use Rattle.std.proofs.Common.{take}
use Rattle.cert_value.specs.declared.types.SecondStep.{SecondStep}
use Rattle.log_check.specs.Follows.{Follows}
use Rattle.log_check.specs.SecondLog.{second_rules}
use Rattle.log_check.proofs.ends.second_end.Given as goal

abbrev pub invariant-loop-i : goal.invariant-loop-i
invariant-loop-i l = Follows SecondStep second_rules l.automaton l.item (take l.i l.steps) l.end
