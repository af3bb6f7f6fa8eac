use Rattle.std.proofs.Common.{◌≡◌, ◌<◌, ◌≤◌, true, false}
use Rattle.delayed_sim.specs.Rounds.{IsReranked, GetsRank, unranked}
use Rattle.delayed_sim.proofs.rounds.rank_next.Given as goal

abbrev pub invariant-loop-at : goal.invariant-loop-at
invariant-loop-at l =
    IsReranked (GetsRank l.automaton l.fn.delayed.triples l.rank) l.at l.fn.delayed l.delayed
    × (unranked l.delayed.triples ≤ unranked l.fn.delayed.triples)
    × (l.any ≡ true → unranked l.delayed.triples < unranked l.fn.delayed.triples)
    × (l.any ≡ false → l.delayed ≡ l.fn.delayed)
