use Rattle.rabit_cli.proofs.PairLemmas.{within_first}
use Rattle.rabit_cli.proofs.equality.compared.Goals as goal

pub joined-requires-clause-one : goal.joined-requires-clause-one
joined-requires-clause-one c = within_first c.args.one.now c.requires.one
