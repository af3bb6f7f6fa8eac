use Rattle.rabit_words.proofs.command.shrink.Goals as goal

pub returns-clause-app : goal.returns-clause-app
returns-clause-app c =
    c.with_place.ensures.app _ c.with_three_files-files.ensures.app
