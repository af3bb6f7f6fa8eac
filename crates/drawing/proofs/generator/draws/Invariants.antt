use Rattle.std.proofs.Common.{◌≡◌, map}
use Rattle.std.specs.List.{range_with_len}
use Rattle.drawing.specs.Draws.{draw_at, lcg_after, generator_of}
use Rattle.drawing.proofs.generator.draws.Given as goal

abbrev pub invariant-loop-at : goal.invariant-loop-at
invariant-loop-at l = (l.generator ≡ lcg_after l._at (generator_of l.seed)) × (l.draws.items ≡ map (draw_at l.seed) (range_with_len 0 l._at))
