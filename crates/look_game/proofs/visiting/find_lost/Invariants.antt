use Rattle.std.proofs.Common.{◌≡◌, ◌+◌, ◌-◌, ◌/◌, ◌≤◌, length}
use Rattle.auto_core.specs.Game.{Round, Holds}
use Rattle.look_game.proofs.VisitLemmas.{AreTried}
use Rattle.look_game.proofs.visiting.find_lost.Given as goal

abbrev pub invariant-loop-q : goal.invariant-loop-q
invariant-loop-q g l =
    (l.scratch ≡ l.fn.scratch)
    × (length l.lost ≡ (l.automaton.states + 63) / 64)
    × AreTried l.rest l.lost (λ q. Round (g.S.Side.goes l.side l.automaton) (g.S.Side.goes l.side l.automaton) (g.S.Side.matches l.side l.automaton) l.look (Holds l.rel.pairs) l.p q) l.at
    × (l.at ≤ l.automaton.states)

abbrev pub decreases-loop-q : goal.decreases-loop-q
decreases-loop-q g l = l.automaton.states - l.at
