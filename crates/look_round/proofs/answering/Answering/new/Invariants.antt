use Rattle.std.proofs.Common.{◌≡◌, ℕ, ◌+◌, ◌/◌, ◌<◌, ◌≤◌}
use Rattle.auto_core.specs.Game.{Holds}
use Rattle.look_round.specs.Answering.{IsRowOfAnswers}
use Rattle.look_round.specs.ReplyLists.{AreReplyLists}
use Rattle.look_round.proofs.answering.Answering.new.Given as goal

abbrev pub invariant-loop-t : goal.invariant-loop-t
invariant-loop-t g l =
    (l.made.width ≡ (l.automaton.states + 63) / 64)
    × (l.made.kept ≤ l.automaton.states)
    × ((p : ℕ) → p < l.t → p < l.made.kept → IsRowOfAnswers (g.S.Side.goes l.side l.automaton) (g.S.Side.matches l.side l.automaton) (Holds l.rel.pairs) l.made p)
    × AreReplyLists (g.S.Side.goes l.side l.automaton) (g.S.Side.matches l.side l.automaton) l.automaton.states l.made.lists
    × (l.arrivals.labels ≡ l.made.labels)
    × (l.arrivals.width ≡ l.made.width)
