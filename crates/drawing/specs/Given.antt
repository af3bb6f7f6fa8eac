-- What the functions that make the automata are given.
use Rattle.std.specs.Prelude.{◌≡◌, ℕ, ◌+◌, ◌*◌, ◌/◌, List, map}
use Rattle.std.specs.List.{range_with_len}
use Rattle.drawing.specs.declared.parts.Drill.{Drill}
use Rattle.drawing.specs.Draws.{draw_at}

-- The draws are all that the drill's automata take.
abbrev pub AreDraws : Drill → List ℕ → Type 0
AreDraws d draws =
    draws ≡ map (draw_at d.seed) (range_with_len 0 (2 * d.states + 3 * (d.states / 8)))
