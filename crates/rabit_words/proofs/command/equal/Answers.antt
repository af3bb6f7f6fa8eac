use Rattle.rabit_words.proofs.command.equal.Goals as goal

pub returns-clause-app : goal.returns-clause-app
returns-clause-app c =
    c.with_place.ensures.app _ (c.with_place-certificate.ensures.app _ c.with_two_files-files.ensures.app)
