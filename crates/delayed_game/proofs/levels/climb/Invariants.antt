use Rattle.std.specs.Prelude.{if◌then◌else◌}
use Rattle.std.proofs.Common.{◌≡◌, ◌+◌, ◌*◌, ◌≤◌, true, false, length}
use Rattle.auto_core.specs.Game.{Holds}
use Rattle.delayed_game.specs.Boards.{IsClimbed, AreLeastRanks}
use Rattle.delayed_game.proofs.levels.climb.Given as goal

abbrev pub invariant-levels : goal.invariant-levels
invariant-levels l =
    IsClimbed l.places l.automaton (Holds l.within.pairs) l.rank l.unranked l.ranks l.answered l.fresh
    × (l.any ≡ true → l.rank + length l.unranked.pairs ≤ l.places.states * l.automaton.states)
    × (l.any ≡ false → AreLeastRanks l.places l.automaton (Holds l.within.pairs) l.ranks)

abbrev pub decreases-levels : goal.decreases-levels
decreases-levels l = length l.unranked.pairs + (if l.any then 1 else 0)
