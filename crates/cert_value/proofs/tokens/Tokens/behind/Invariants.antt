use Rattle.std.proofs.Common.{◌≡◌, drop}
use Rattle.cert_value.specs.Tokens.{tokens_of}
use Rattle.cert_value.proofs.tokens.Tokens.behind.Given as goal

abbrev pub invariant-loop-token : goal.invariant-loop-token
invariant-loop-token l = l.tokens ≡ drop l._token (tokens_of l.fn.line)
