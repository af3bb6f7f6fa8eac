use Rattle.rabit_words.proofs.command.with_two_files.Goals as goal

pub returns-clause-app : goal.returns-clause-app
returns-clause-app c =
    c.with_place.ensures.app _ c.with_one_place-first.ensures.app
