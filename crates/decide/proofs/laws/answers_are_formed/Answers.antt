use Rattle.decide.proofs.AnswerLemmas.{answers_are_formed as law}
use Rattle.decide.proofs.laws.answers_are_formed.Goals as goal

pub returns : goal.returns
returns c = law
