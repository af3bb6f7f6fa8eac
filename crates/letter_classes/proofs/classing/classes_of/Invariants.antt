use Rattle.letter_classes.proofs.ClassLemmas.{IsUnderWay}
use Rattle.letter_classes.proofs.classing.classes_of.Given as goal

abbrev pub invariant-loop-letter : goal.invariant-loop-letter
invariant-loop-letter l = IsUnderWay l.automaton l.of.items l.letter l.firsts.items
