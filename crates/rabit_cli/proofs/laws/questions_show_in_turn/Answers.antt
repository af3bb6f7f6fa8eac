use Rattle.rabit_cli.proofs.BatchLemmas.{questions_show as law}
use Rattle.rabit_cli.proofs.laws.questions_show_in_turn.Goals as goal

pub returns : goal.returns
returns c = law
