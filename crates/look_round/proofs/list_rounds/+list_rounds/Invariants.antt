use Rattle.std.proofs.Common.{◌+◌, ◌*◌, ◌<◌, ◌≤◌, ℕ, length, take}
use Rattle.auto_core.specs.Game.{Holds}
use Rattle.look_round.specs.Listed.{IsListedWithin, KeepsListed}
use Rattle.look_round.proofs.ListedLemmas.{AllAnswered}
use Rattle.look_round.proofs.list_rounds.+list_rounds.Given as goal

abbrev pub decreases-told_from : goal.decreases-told_from
decreases-told_from g l = 2 * l.left + 1

abbrev pub decreases-told_after : goal.decreases-told_after
decreases-told_after g l = 2 * l.left

abbrev pub invariant-told_from-loop-number : goal.invariant-told_from-loop-number
invariant-told_from-loop-number g l =
    (l.end ≤ length l.listed)
    × ((q : ℕ) → IsListedWithin l.listed l.at l.end q → q < l.automaton.states)
    × KeepsListed l.fn.listed l.listed l.end
    × AllAnswered (g.S.Side.goes l.side l.automaton) (g.S.Side.matches l.side l.automaton) (Holds l.rel.pairs) l.left (IsListedWithin l.fn.listed l.at l.end)
    (take l.number (g.S.Side.list l.side l.automaton l.p))
