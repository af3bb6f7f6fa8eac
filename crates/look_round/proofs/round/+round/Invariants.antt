use Rattle.std.proofs.Common.{◌≡◌, ◌+◌, ◌*◌, length}
use Rattle.auto_core.specs.Game.{Holds}
use Rattle.look_round.specs.Known.{AreKnown}
use Rattle.look_round.proofs.RoundLoop.{IsAnsweredUpto}
use Rattle.look_round.proofs.round.+round.Given as goal

abbrev pub decreases-round_from : goal.decreases-round_from
decreases-round_from g l = 2 * l.left + 1

abbrev pub decreases-step_answered : goal.decreases-step_answered
decreases-step_answered g l = 2 * l.left

abbrev pub invariant-round_from-loop-at : goal.invariant-round_from-loop-at
invariant-round_from-loop-at g l =
    (l.path.items ≡ l.fn.path.items)
    × (l.path.capacity ≡ l.fn.path.capacity)
    × IsAnsweredUpto (g.S.Side.goes l.side l.automaton) (g.S.Side.matches l.side l.automaton) (Holds l.rel.pairs) (g.S.Side.list l.side l.automaton l.p) l.left l.automaton.states l.width (length l.fn.path.items) l.fn.sets l.sets l.at
    × AreKnown (g.S.Side.goes l.side l.automaton) (g.S.Side.matches l.side l.automaton) (Holds l.rel.pairs) l.automaton.states l.known
