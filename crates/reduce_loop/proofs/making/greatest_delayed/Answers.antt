use Rattle.reduce_loop.proofs.DelayedLemmas.{letters_fit}
use Rattle.reduce_loop.proofs.making.greatest_delayed.Goals as goal

pub greatest-requires-clause-fitting : goal.greatest-requires-clause-fitting
greatest-requires-clause-fitting c = letters_fit c.args.automaton.now c.args.asked c.letters_for-letters.result c.letters_for-letters.ensures.letters
