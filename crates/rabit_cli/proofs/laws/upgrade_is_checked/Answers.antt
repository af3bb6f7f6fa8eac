use Rattle.rabit_cli.proofs.CheckedLemmas.{upgrade_checked as law}
use Rattle.rabit_cli.proofs.laws.upgrade_is_checked.Goals as goal

pub returns : goal.returns
returns c = law
