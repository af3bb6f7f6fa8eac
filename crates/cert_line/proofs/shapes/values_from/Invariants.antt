use Rattle.std.proofs.Common.{◌≡◌, ◌++◌, map, length}
use Rattle.cert_value.specs.Tokens.{tokens_of}
use Rattle.cert_line.specs.Shapes.{values_from, value}
use Rattle.cert_line.proofs.shapes.values_from.Given as goal

abbrev pub invariant-loop-token : goal.invariant-loop-token
invariant-loop-token l = l.values ++ map value l.tokens ≡ values_from l.fn.number (tokens_of l.fn.line)

abbrev pub decreases-loop-token : goal.decreases-loop-token
decreases-loop-token l = length l.tokens
