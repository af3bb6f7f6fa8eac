use Rattle.std.proofs.Common.{drop, sym, ap, ◌∙◌}
use Rattle.cert_line.specs.Shapes.{fits}
use Rattle.cert_line.proofs.ShapeLemmas.{fits_none}
use Rattle.cert_line.proofs.shapes.fits.Goals as goal

pub returns-in_default : goal.returns-in_default
returns-in_default c =
    let left = drop c.loop-place.place-index c.args.places.now in
    sym (fits_none left) ∙ ap (λ ts. fits left ts) (sym c.in_default.ensures.token) ∙ c.loop-place.invariant
