use Rattle.std.proofs.Common.{All, take}
use Rattle.log_check.specs.FirstLog.{IsGoneIn}
use Rattle.log_check.proofs.cuts.are_gone_in.Given as goal

abbrev pub invariant-loop-one : goal.invariant-loop-one
invariant-loop-one l = All (IsGoneIn l.automaton) (take l.one-index l.gone)
