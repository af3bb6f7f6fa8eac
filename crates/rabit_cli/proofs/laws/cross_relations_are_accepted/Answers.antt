use Rattle.rabit_cli.proofs.CheckedLemmas.{cross_relations_accepted as law}
use Rattle.rabit_cli.proofs.laws.cross_relations_are_accepted.Goals as goal

pub returns : goal.returns
returns c = law
