use Rattle.bisimulation.specs.Rounds.{IsBetweenRounds}
use Rattle.bisimulation.proofs.finding.coarsest.Given as goal

abbrev pub invariant-loop-round : goal.invariant-loop-round
invariant-loop-round l = IsBetweenRounds l.automaton l.table.keys l.due.keys l.partition
