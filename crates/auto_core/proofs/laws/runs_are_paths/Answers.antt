use Rattle.auto_core.proofs.PathLemmas.{path_of_run, run_from_path}
use Rattle.auto_core.proofs.laws.runs_are_paths.Goals as goal

pub returns : goal.returns
returns c = λ A p w q flag. (path_of_run A p w q flag, run_from_path A p w q flag)
