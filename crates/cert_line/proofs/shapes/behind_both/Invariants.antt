use Rattle.std.proofs.Common.{◌≡◌, drop}
use Rattle.cert_value.specs.Tokens.{tokens_of}
use Rattle.cert_line.proofs.shapes.behind_both.Given as goal

abbrev pub invariant-loop-token : goal.invariant-loop-token
invariant-loop-token l = l.tokens ≡ drop l._token (drop l.fn.places (tokens_of l.fn.line))
