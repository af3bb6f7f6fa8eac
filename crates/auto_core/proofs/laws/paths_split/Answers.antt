use Rattle.auto_core.specs.Automaton.{Moves}
use Rattle.auto_core.proofs.PathLemmas.{path_split}
use Rattle.auto_core.proofs.laws.paths_split.Goals as goal

pub returns : goal.returns
returns c = λ A. path_split (Moves A)
