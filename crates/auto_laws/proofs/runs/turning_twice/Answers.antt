use Rattle.auto_laws.proofs.TurnLemmas.{end_of-turned, turned-turned}
use Rattle.auto_laws.proofs.runs.turning_twice.Goals as goal

pub returns : goal.returns
returns c = λ p ps. (end_of-turned p ps, turned-turned p ps)
