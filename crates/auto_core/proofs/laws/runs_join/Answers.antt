use Rattle.auto_core.proofs.PathLemmas.{run_join}
use Rattle.auto_core.proofs.laws.runs_join.Goals as goal

pub returns : goal.returns
returns c = run_join
