use Rattle.std.proofs.Common.{◌≡◌, drop}
use Rattle.cert_value.specs.Tokens.{tokens_of}
use Rattle.cert_line.specs.Shapes.{has_numbers}
use Rattle.cert_line.proofs.shapes.has_numbers.Given as goal

abbrev pub invariant-loop-place : goal.invariant-loop-place
invariant-loop-place l = has_numbers (drop l.place-index l.places) l.tail l.tokens ≡ has_numbers l.places l.tail (tokens_of l.fn.line)
