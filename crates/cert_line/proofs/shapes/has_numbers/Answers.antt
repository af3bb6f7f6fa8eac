use Rattle.std.proofs.Common.{drop, sym, ap, ◌∙◌}
use Rattle.cert_line.specs.Shapes.{has_numbers}
use Rattle.cert_line.proofs.ShapeLemmas.{has_numbers_none}
use Rattle.cert_line.proofs.shapes.has_numbers.Goals as goal

pub returns-in_default : goal.returns-in_default
returns-in_default c =
    let left = drop c.loop-place.place-index c.args.places.now in
    sym (has_numbers_none left c.args.tail) ∙ ap (λ ts. has_numbers left c.args.tail ts) (sym c.in_default.ensures.token) ∙ c.loop-place.invariant
