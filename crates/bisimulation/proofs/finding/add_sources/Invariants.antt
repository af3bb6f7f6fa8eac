use Rattle.bisimulation.proofs.SourceLemmas.{IsAdding}
use Rattle.bisimulation.proofs.finding.add_sources.Given as goal

abbrev pub invariant-loop-k : goal.invariant-loop-k
invariant-loop-k l = IsAdding l.automaton l.numbers l.fn.due.keys l.due.keys l.k
