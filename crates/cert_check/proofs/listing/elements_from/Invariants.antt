use Rattle.std.proofs.Common.{◌≡◌, take}
use Rattle.cert_check.specs.Listing.{as_elements}
use Rattle.cert_check.proofs.listing.elements_from.Given as goal

abbrev pub invariant-loop-origin : goal.invariant-loop-origin
invariant-loop-origin l = l.elements ≡ as_elements (take l.origin-index l.origins)
