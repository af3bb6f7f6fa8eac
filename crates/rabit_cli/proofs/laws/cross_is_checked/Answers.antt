use Rattle.rabit_cli.proofs.CheckedLemmas.{cross_checked as law}
use Rattle.rabit_cli.proofs.laws.cross_is_checked.Goals as goal

pub returns : goal.returns
returns c = law
