use Rattle.rabit_words.proofs.command.cross.Goals as goal

pub returns-clause-app : goal.returns-clause-app
returns-clause-app c =
    c.with_word.ensures.app _ (c.with_place-relation.ensures.app _ c.with_two_files-files.ensures.app)
