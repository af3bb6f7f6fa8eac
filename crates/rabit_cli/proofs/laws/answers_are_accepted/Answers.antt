use Rattle.rabit_cli.proofs.LawLemmas.{answers_accepted as law}
use Rattle.rabit_cli.proofs.laws.answers_are_accepted.Goals as goal

pub returns : goal.returns
returns c = law
