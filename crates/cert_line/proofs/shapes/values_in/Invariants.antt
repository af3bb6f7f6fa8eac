use Rattle.std.proofs.Common.{◌≡◌, ◌++◌, ◌-◌, map, take}
use Rattle.cert_value.specs.Tokens.{tokens_of}
use Rattle.cert_line.specs.Shapes.{values_from, value}
use Rattle.cert_line.proofs.shapes.values_in.Given as goal

abbrev pub invariant-loop-value : goal.invariant-loop-value
invariant-loop-value l =
    l.values ++ take (l.fn.count - l._value) (map value l.tokens) ≡ take l.fn.count (values_from l.fn.number (tokens_of l.fn.line))
