use Rattle.std.proofs.Common.{All, take}
use Rattle.log_check.specs.Closures.{IsAsGoodBy}
use Rattle.log_check.proofs.cuts.are_as_good.Given as goal

abbrev pub invariant-loop-one : goal.invariant-loop-one
invariant-loop-one l = All (IsAsGoodBy l.automaton l.back l.ahead) (take l.one-index l.gone)
