use Rattle.auto_core.specs.Automaton.{Moves}
use Rattle.auto_laws.proofs.GameLemmas.{extend, tells_forward}
use Rattle.auto_laws.proofs.runs.paths_extend.Goals as goal

pub returns : goal.returns
returns c = λ A. extend (Moves A) (tells_forward A)
