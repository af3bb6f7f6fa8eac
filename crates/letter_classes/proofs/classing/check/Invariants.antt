use Rattle.letter_classes.specs.Columns.{AreFirsts, JoinsEqualBelow}
use Rattle.letter_classes.proofs.classing.check.Given as goal

abbrev pub invariant-loop-letter : goal.invariant-loop-letter
invariant-loop-letter l = AreFirsts l.classes l.letter l.firsts.items × JoinsEqualBelow l.automaton l.classes l.letter
