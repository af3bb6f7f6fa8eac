use Rattle.rabit_words.proofs.command.drill.Goals as goal

pub returns-clause-app : goal.returns-clause-app
returns-clause-app c =
    c.with_place.ensures.app _ (c.with_place-states.ensures.app _ c.with_one_place-seed.ensures.app)
