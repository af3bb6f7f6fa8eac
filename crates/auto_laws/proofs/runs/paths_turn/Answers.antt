use Rattle.auto_core.specs.Automaton.{Moves}
use Rattle.auto_core.specs.Game.{BackwardMoves}
use Rattle.auto_laws.proofs.TurnLemmas.{path_turned}
use Rattle.auto_laws.proofs.runs.paths_turn.Goals as goal

pub returns : goal.returns
returns c = λ A p w ps. (path_turned (Moves A) p w ps, path_turned (BackwardMoves A) p w ps)
