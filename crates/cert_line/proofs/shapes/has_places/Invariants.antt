use Rattle.std.proofs.Common.{◌≡◌, length, nat_le, ◌-◌}
use Rattle.cert_value.specs.Tokens.{tokens_of}
use Rattle.cert_line.proofs.shapes.has_places.Given as goal

abbrev pub invariant-loop-place : goal.invariant-loop-place
invariant-loop-place l = nat_le (l.count - l._place) (length l.tokens) ≡ nat_le l.count (length (tokens_of l.fn.line))
