-- Playing a game on, to find pairs that are lost.
use Rattle.std.specs.Prelude.{◌≡◌}
use Rattle.bit_rel.specs.Relation.{IsRelation}
use Rattle.look_round.specs.declared.sides.Side.{Ghosts}
use Rattle.look_game.specs.declared.losing.Play.{Play}
use Rattle.look_game.specs.Taking.{TakesAway}

-- The same game, where pairs were taken away that are lost.
pub record PlaysOn {S : Type 0} {G : Ghosts S} (old new : Play S G) : Type 0 where
  pub side : new.side ≡ old.side
  pub automaton : new.automaton ≡ old.automaton
  pub look : new.look ≡ old.look
  pub takes : IsRelation old.rel
      → TakesAway (G.goes old.side.now old.automaton.now) (G.matches old.side.now old.automaton.now)
      old.look old.rel new.rel
