use Rattle.std.proofs.Common.{◌≡◌, length}
use Rattle.cert_line.specs.Shapes.{pair_up}
use Rattle.cert_line.proofs.shapes.pair_up.Given as goal

abbrev pub invariant-loop-first : goal.invariant-loop-first
invariant-loop-first l = pair_up l.tokens ≡ pair_up l.fn.all

abbrev pub decreases-loop-first : goal.decreases-loop-first
decreases-loop-first l = length l.tokens
