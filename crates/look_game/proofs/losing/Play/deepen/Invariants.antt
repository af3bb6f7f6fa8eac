use Rattle.look_game.specs.Playing.{PlaysOn}
use Rattle.look_game.proofs.losing.Play.deepen.Given as goal

abbrev pub invariant-loop-depth : goal.invariant-loop-depth
invariant-loop-depth g l = PlaysOn l.fn.self l.self
