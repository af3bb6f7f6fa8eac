use Rattle.std.proofs.Common.{take}
use Rattle.decide.specs.Written.{AreSecondWritten}
use Rattle.decide.proofs.logs.second_log.Given as goal

abbrev pub invariant-loop-step : goal.invariant-loop-step
invariant-loop-step l = AreSecondWritten (take l.step-index l.log) l.steps
