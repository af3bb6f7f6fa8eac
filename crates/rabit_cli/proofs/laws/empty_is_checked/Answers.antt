use Rattle.rabit_cli.proofs.CheckedLemmas.{empty_checked as law}
use Rattle.rabit_cli.proofs.laws.empty_is_checked.Goals as goal

pub returns : goal.returns
returns c = law
