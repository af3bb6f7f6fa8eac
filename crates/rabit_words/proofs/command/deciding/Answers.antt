use Rattle.rabit_words.proofs.command.deciding.Goals as goal

pub returns-clause-app : goal.returns-clause-app
returns-clause-app c =
    c.with_finite.ensures.app _ (c.with_place-certificate.ensures.app _ (c.with_place-made.ensures.app _ c.with_one_place-automaton.ensures.app))
