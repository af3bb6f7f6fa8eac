use Rattle.std.proofs.Common.{◌≡◌, ◌<◌, ◌≤◌, ℕ}
use Rattle.look_round.specs.Arrivals.{IsRowOfArrivals}
use Rattle.look_round.proofs.arrivals.Arrivals.new.Given as goal

abbrev pub invariant-loop-r : goal.invariant-loop-r
invariant-loop-r g l =
    (l.made.labels ≡ l.like.labels)
    × (l.made.width ≡ l.like.width)
    × (l.made.kept ≡ l.initial.made.kept)
    × (l.made.kept ≤ l.like.kept)
    × ((r : ℕ) → r < l.r → IsRowOfArrivals (g.S.Side.goes l.side l.automaton) l.made r)
