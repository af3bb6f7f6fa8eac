use Rattle.std.proofs.Common.{◌<◌, All}
use Rattle.look_game.proofs.losing.Play.replies_to.Given as goal

abbrev pub invariant-loop-q : goal.invariant-loop-q
invariant-loop-q g l = All (λ r. r < l.self.automaton.now.states) l.replies.items
