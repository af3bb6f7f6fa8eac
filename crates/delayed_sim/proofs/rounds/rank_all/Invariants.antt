use Rattle.std.proofs.Common.{◌≡◌, ℕ, suc, ◌+◌, ◌≤◌, length}
use Rattle.delayed_sim.specs.Rounds.{HasSameTriples, AreRankedUpto, unranked}
use Rattle.delayed_sim.proofs.rounds.rank_all.Given as goal

abbrev pub invariant-levels : goal.invariant-levels
invariant-levels l =
    (r : ℕ)
    × (l.rank ≡ suc r)
    × AreRankedUpto l.automaton l.fn.delayed.letters r l.delayed.triples
    × HasSameTriples l.fn.delayed l.delayed
    × (r + unranked l.delayed.triples ≤ length l.fn.delayed.triples)

abbrev pub decreases-levels : goal.decreases-levels
decreases-levels l = unranked l.delayed.triples
