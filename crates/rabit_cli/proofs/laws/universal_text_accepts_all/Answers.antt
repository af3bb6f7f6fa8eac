use Rattle.rabit_cli.proofs.TextLemmas.{text_accepts_all as law}
use Rattle.rabit_cli.proofs.laws.universal_text_accepts_all.Goals as goal

pub returns : goal.returns
returns c = law
