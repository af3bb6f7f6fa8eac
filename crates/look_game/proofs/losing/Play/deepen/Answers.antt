use Rattle.look_game.proofs.PlayLemmas.{plays_then}
use Rattle.look_game.proofs.losing.Play.deepen.Goals as goal

pub returns-then-branch : goal.returns-then-branch
returns-then-branch g c = plays_then c.args.self.now c.loop-depth.self c.loses.new.self c.loop-depth.invariant c.in_ok-loses.ensures

pub loop-depth-preserved : goal.loop-depth-preserved
loop-depth-preserved g c = plays_then c.args.self.now c.loop-depth.self c.loses.new.self c.loop-depth.invariant c.in_ok-loses.ensures
