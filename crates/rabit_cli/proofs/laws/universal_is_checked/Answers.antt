use Rattle.rabit_cli.proofs.CheckedLemmas.{universal_checked as law}
use Rattle.rabit_cli.proofs.laws.universal_is_checked.Goals as goal

pub returns : goal.returns
returns c = law
