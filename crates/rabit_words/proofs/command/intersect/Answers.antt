use Rattle.rabit_words.proofs.command.intersect.Goals as goal

pub returns-clause-app : goal.returns-clause-app
returns-clause-app c =
    c.with_finite.ensures.app _ c.with_two_files-files.ensures.app
