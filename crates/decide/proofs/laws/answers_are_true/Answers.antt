use Rattle.decide.proofs.AnswerLemmas.{answers_are_true as law}
use Rattle.decide.proofs.laws.answers_are_true.Goals as goal

pub returns : goal.returns
returns c = law
