use Rattle.std.proofs.Common.{◌<◌, All}
use Rattle.look_game.proofs.sweeping.nearest_first.Given as goal

abbrev pub invariant-loop-at : goal.invariant-loop-at
invariant-loop-at g l = All (λ q. q < l.automaton.states) l.order.items
