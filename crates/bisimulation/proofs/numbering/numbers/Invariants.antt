use Rattle.bisimulation.proofs.NumberLemmas.{IsNumbering}
use Rattle.bisimulation.proofs.numbering.numbers.Given as goal

abbrev pub invariant-loop-i : goal.invariant-loop-i
invariant-loop-i l = IsNumbering l.of l.seen.keys l.made.items l.i
