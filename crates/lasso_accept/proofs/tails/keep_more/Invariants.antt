use Rattle.std.proofs.Common.{◌-◌, length}
use Rattle.lasso_accept.specs.Tails.{AreTails}
use Rattle.lasso_accept.proofs.tails.keep_more.Given as goal

abbrev pub invariant-loop-length : goal.invariant-loop-length
invariant-loop-length l = AreTails l.automaton l.word l.kept.items

abbrev pub decreases-loop-length : goal.decreases-loop-length
decreases-loop-length l = length l.word - l.length
