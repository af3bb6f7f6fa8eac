use Rattle.rabit_cli.proofs.TextLemmas.{text_accepts_nothing as law}
use Rattle.rabit_cli.proofs.laws.empty_text_accepts_nothing.Goals as goal

pub returns : goal.returns
returns c = law
