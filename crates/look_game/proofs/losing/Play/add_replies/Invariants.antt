use Rattle.std.proofs.Common.{◌<◌, All}
use Rattle.look_game.proofs.losing.Play.add_replies.Given as goal

abbrev pub invariant-loop-at : goal.invariant-loop-at
invariant-loop-at g l = All (λ r. r < l.self.automaton.now.states) l.replies.items
