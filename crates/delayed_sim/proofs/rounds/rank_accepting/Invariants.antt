use Rattle.delayed_sim.specs.Rounds.{IsReranked, GetsRankZero}
use Rattle.delayed_sim.proofs.rounds.rank_accepting.Given as goal

abbrev pub invariant-loop-at : goal.invariant-loop-at
invariant-loop-at l = IsReranked (GetsRankZero l.automaton) l.at l.fn.delayed l.delayed
