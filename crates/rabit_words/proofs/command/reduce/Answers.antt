use Rattle.rabit_words.proofs.command.reduce.Goals as goal

pub returns-clause-app : goal.returns-clause-app
returns-clause-app c =
    c.with_word.ensures.app _ (c.with_word-look.ensures.app _ (c.with_finite-finite.ensures.app _ c.with_one_place-automaton.ensures.app))
