use Rattle.rabit_cli.proofs.CheckedLemmas.{agrees_on_upgrade}
use Rattle.rabit_cli.proofs.laws.check_agrees_on_upgrade.Goals as goal

pub returns : goal.returns
returns c = agrees_on_upgrade
