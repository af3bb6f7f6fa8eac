use Rattle.auto_core.specs.Automaton.{Moves}
use Rattle.auto_core.proofs.PathLemmas.{path_join}
use Rattle.auto_core.proofs.laws.paths_join.Goals as goal

pub returns : goal.returns
returns c = λ A. path_join (Moves A)
