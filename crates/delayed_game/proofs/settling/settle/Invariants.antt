use Rattle.std.proofs.Common.{length}
use Rattle.auto_core.specs.Game.{Holds}
use Rattle.delayed_game.specs.Settling.{KeptRowsAnswer, IsAnsweredBesides, TakesAway}
use Rattle.delayed_game.proofs.settling.settle.Given as goal

abbrev pub invariant-passes : goal.invariant-passes
invariant-passes l = TakesAway l.places l.automaton l.fn.board l.board × IsAnsweredBesides l.places l.automaton (Holds l.board.pairs) l.marks × KeptRowsAnswer l.places l.automaton l.width l.kept l.tried l.board

abbrev pub decreases-passes : goal.decreases-passes
decreases-passes l = length l.board.pairs
