use Rattle.look_game.proofs.visiting.visit_row.Goals as goal

pub returns-clause-ready : goal.returns-clause-ready
returns-clause-ready g c = record { answers = c.try_row.ensures.answers; rest = c.requires.ready.rest; lost = c.requires.ready.lost }
