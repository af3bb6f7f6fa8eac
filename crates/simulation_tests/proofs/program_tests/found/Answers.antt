use Rattle.reduce_loop.proofs.DelayedLemmas.{letters_fit}
use Rattle.simulation_tests.proofs.program_tests.found.Goals as goal

pub greatest-requires-clause-fitting : goal.greatest-requires-clause-fitting
greatest-requires-clause-fitting c = letters_fit c.args.automaton.now c.args.asked c.letters_for-letters.result c.letters_for-letters.ensures.letters

pub greatest_by_rounds-requires-clause-fitting : goal.greatest_by_rounds-requires-clause-fitting
greatest_by_rounds-requires-clause-fitting c = letters_fit c.args.automaton.now c.args.asked c.letters_for-letters.result c.letters_for-letters.ensures.letters
