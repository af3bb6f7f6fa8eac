use Rattle.std.proofs.Common.{arith}
use Rattle.strong_components.proofs.finding.components_of.Goals as goal

pub loop-root-init : goal.loop-root-init
loop-root-init c =
    let way = c.in_ok-search.ensures.way c.args.targets.now in
    (way.rest_size, way, c.in_ok-search.ensures.ended, λ v lt. absurd (omega (arith, lt)))
