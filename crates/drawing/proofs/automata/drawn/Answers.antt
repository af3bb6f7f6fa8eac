use Rattle.std.proofs.Common.{◌∙◌}
use Rattle.drawing.specs.Drawn.{accepts_first, accepts_second}
use Rattle.drawing.proofs.DrawLemmas.{first_parts, second_parts, parts_are}
use Rattle.drawing.proofs.automata.drawn.Goals as goal

pub of_parts-requires : goal.of_parts-requires
of_parts-requires c =
    parts_are c.args.drill.states c.args.drill.labels _ _ c.deref-2.result.now c.deref-4.result.now
    (c.deref-2.ensures.value ∙ c.in_ok-ring.ensures) (c.deref-4.ensures.value ∙ c.in_ok-first_accepting.ensures)
    (first_parts c.args.drill c.requires (accepts_first c.args.drill))

pub of_parts-requires-2 : goal.of_parts-requires-2
of_parts-requires-2 c =
    parts_are c.args.drill.states c.args.drill.labels _ _ c.deref-6.result.now c.deref-8.result.now
    (c.deref-6.ensures.value ∙ c.in_ok-ring_and_more.ensures) (c.deref-8.ensures.value ∙ c.in_ok-second_accepting.ensures)
    (second_parts c.args.drill c.requires (accepts_second c.args.drill))
