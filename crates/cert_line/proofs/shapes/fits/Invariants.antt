use Rattle.std.proofs.Common.{◌≡◌, drop}
use Rattle.cert_value.specs.Tokens.{tokens_of}
use Rattle.cert_line.specs.Shapes.{fits}
use Rattle.cert_line.proofs.shapes.fits.Given as goal

abbrev pub invariant-loop-place : goal.invariant-loop-place
invariant-loop-place l = fits (drop l.place-index l.places) l.tokens ≡ fits l.places (tokens_of l.fn.line)
