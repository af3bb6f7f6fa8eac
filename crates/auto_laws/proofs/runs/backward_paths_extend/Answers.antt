use Rattle.auto_core.specs.Game.{BackwardMoves}
use Rattle.auto_laws.proofs.GameLemmas.{extend, tells_backward}
use Rattle.auto_laws.proofs.runs.backward_paths_extend.Goals as goal

pub returns : goal.returns
returns c = λ A. extend (BackwardMoves A) (tells_backward A)
