use Rattle.std.proofs.Common.{take}
use Rattle.decide.specs.Written.{AreFirstWritten}
use Rattle.decide.proofs.logs.first_log.Given as goal

abbrev pub invariant-loop-step : goal.invariant-loop-step
invariant-loop-step l = AreFirstWritten (take l.step-index l.log) l.steps
