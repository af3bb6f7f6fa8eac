use Rattle.std.proofs.Common.{length}
use Rattle.rabit_cli.proofs.batching.+carry_each.Given as goal

abbrev pub decreases-carry_each : goal.decreases-carry_each
decreases-carry_each g l = length l.questions.now
