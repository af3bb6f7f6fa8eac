use Rattle.std.proofs.Common.{◌+◌, ◌*◌}
use Rattle.look_game.specs.Playing.{PlaysOn}
use Rattle.look_game.proofs.losing.Play.+losing.Given as goal

abbrev pub decreases-loses : goal.decreases-loses
decreases-loses g l = 32 * l.depth

abbrev pub decreases-all_lose : goal.decreases-all_lose
decreases-all_lose g l = 32 * l.depth + 1

abbrev pub decreases-move_wins : goal.decreases-move_wins
decreases-move_wins g l = 32 * l.depth + 2 * l.left + 2

abbrev pub decreases-path_wins : goal.decreases-path_wins
decreases-path_wins g l = 32 * l.depth + 2 * l.left + 3

abbrev pub invariant-all_lose-loop-i : goal.invariant-all_lose-loop-i
invariant-all_lose-loop-i g l = PlaysOn l.fn.self l.self

abbrev pub invariant-path_wins-loop-at : goal.invariant-path_wins-loop-at
invariant-path_wins-loop-at g l = PlaysOn l.fn.self l.self
