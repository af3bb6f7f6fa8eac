-- The two automata of a drill. The draws are taken in this order: one for each state's transition,
-- one for each state's acceptance, and three for each further transition of the second automaton.
use Rattle.std.specs.Prelude.{◌≡◌, ℕ, ◌+◌, ◌*◌, ◌/◌, ◌%◌, ◌≤◌, Bool, ◌||◌, ◌==◌, List, ◌++◌, map, filter, fold, codes, decimal}
use Rattle.std.specs.List.{range_with_len}
use Rattle.auto_core.specs.declared.parts.Trans.{Trans}
use Rattle.auto_core.specs.Automaton.{trans}
use Rattle.auto_core.specs.Build.{IsBuilt}
use Rattle.ba_format.specs.declared.parts.Joined.{Joined}
use Rattle.ba_format.specs.Sight.{noted}
use Rattle.ba_format.specs.Faults.{same_trans}
use Rattle.drawing.specs.declared.parts.Drill.{Drill}
use Rattle.drawing.specs.Draws.{draw_at}

-- The drill has from 2 to 512 states and from 1 to 26 labels.
pub record IsInBounds (d : Drill) : Type 0 where
  pub states_from : 2 ≤ d.states
  pub states_upto : d.states ≤ 512
  pub labels_from : 1 ≤ d.labels
  pub labels_upto : d.labels ≤ 26

-- The transition out of the state s, to the next one around the ring; both automata have it.
abbrev pub ring_at : Drill → ℕ → Trans
ring_at d s = trans s (draw_at d.seed s % d.labels) ((s + 1) % d.states)

abbrev pub ring : Drill → List Trans
ring d = map (ring_at d) (range_with_len 0 d.states)

-- In the first automaton 0 is accepting, and each state whose draw leaves 0 when it is divided by
-- 4.
abbrev pub accepts_first : Drill → ℕ → Bool
accepts_first d s = (s == 0) || (draw_at d.seed (d.states + s) % 4 == 0)

-- In the second one those are, and each state whose draw leaves 1.
abbrev pub accepts_second : Drill → ℕ → Bool
accepts_second d s = accepts_first d s || (draw_at d.seed (d.states + s) % 4 == 1)

-- The transition of three further draws: its source, its label and its target.
abbrev pub extra_at : Drill → ℕ → Trans
extra_at d i =
    trans (draw_at d.seed (2 * d.states + 3 * i) % d.states)
    (draw_at d.seed (2 * d.states + 3 * i + 1) % d.labels)
    (draw_at d.seed (2 * d.states + 3 * i + 2) % d.states)

-- The ring, and one further transition for every eight states, each unless it is there.
abbrev pub ring_and_more : Drill → List Trans
ring_and_more d =
    fold (noted same_trans) (ring d) (map (extra_at d) (range_with_len 0 (d.states / 8)))

-- The label with this number: `a0`, `a1` and so on.
abbrev pub drawn_label : ℕ → List ℕ
drawn_label a = codes "a" ++ decimal a

-- The two automata of the drill. State 0 is initial in both.
pub record AreDrawn (d : Drill) (pair : Joined) : Type 0 where
  pub first : IsBuilt d.states d.labels 0 (ring d)
      (filter (accepts_first d) (range_with_len 0 d.states)) pair.first
  pub second : IsBuilt d.states d.labels 0 (ring_and_more d)
      (filter (accepts_second d) (range_with_len 0 d.states)) pair.second
  pub labels : pair.labels ≡ map drawn_label (range_with_len 0 d.labels)
