use Rattle.auto_core.proofs.PathLemmas.{run_split}
use Rattle.auto_core.proofs.laws.runs_split.Goals as goal

pub returns : goal.returns
returns c = run_split
