use Rattle.rabit_cli.proofs.LawLemmas.{check_agrees as law}
use Rattle.rabit_cli.proofs.laws.check_agrees.Goals as goal

pub returns : goal.returns
returns c = law
