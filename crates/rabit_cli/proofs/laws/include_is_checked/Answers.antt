use Rattle.rabit_cli.proofs.LawLemmas.{include_checked as law}
use Rattle.rabit_cli.proofs.laws.include_is_checked.Goals as goal

pub returns : goal.returns
returns c = law
