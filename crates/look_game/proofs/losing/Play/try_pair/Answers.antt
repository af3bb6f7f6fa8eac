use Rattle.std.proofs.Common.{refl}
use Rattle.std.proofs.lemmas.Bool.{iff_false}
use Rattle.look_game.proofs.TakingLemmas.{takes_one}
use Rattle.look_game.proofs.losing.Play.try_pair.Goals as goal

pub returns-then-not-round_holds : goal.returns-then-not-round_holds
returns-then-not-round_holds g c = record {
  side = refl;
  automaton = refl;
  look = refl;
  takes = λ _.
      takes_one (g.S.Side.goes c.args.self.now.side.now c.args.self.now.automaton.now) (g.S.Side.matches c.args.self.now.side.now c.args.self.now.automaton.now) c.args.self.now.look c.args.self.now.rel
      c.clear.new.self c.args.pair.left c.args.pair.right c.clear.ensures.valid c.clear.ensures.pairs
      (iff_false c.round_holds.ensures.told c.if-not-round_holds.true);
}
