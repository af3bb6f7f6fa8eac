use Rattle.std.proofs.Common.{◌≡◌, length}
use Rattle.cert_value.specs.Tokens.{tokens_of}
use Rattle.cert_line.specs.Shapes.{has_empty}
use Rattle.cert_line.proofs.shapes.has_empty.Given as goal

abbrev pub invariant-loop-token : goal.invariant-loop-token
invariant-loop-token l = has_empty l.tokens ≡ has_empty (tokens_of l.fn.line)

abbrev pub decreases-loop-token : goal.decreases-loop-token
decreases-loop-token l = length l.tokens
