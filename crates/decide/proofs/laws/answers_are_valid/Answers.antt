use Rattle.decide.proofs.AnswerLemmas.{answers_are_valid as law}
use Rattle.decide.proofs.laws.answers_are_valid.Goals as goal

pub returns : goal.returns
returns c = law
