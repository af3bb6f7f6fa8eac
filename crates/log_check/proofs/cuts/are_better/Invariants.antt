use Rattle.std.proofs.Common.{All, take}
use Rattle.log_check.specs.Closures.{IsBetterBy}
use Rattle.log_check.proofs.cuts.are_better.Given as goal

abbrev pub invariant-loop-one : goal.invariant-loop-one
invariant-loop-one l = All (IsBetterBy l.automaton l.pair l.back l.ahead) (take l.one-index l.gone)
