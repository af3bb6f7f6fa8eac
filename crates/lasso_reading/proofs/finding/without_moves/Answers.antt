use Rattle.std.proofs.Common.{[]}
use Rattle.std.proofs.lemmas.Result.{IfOk-weaker}
use Rattle.auto_core.specs.Automaton.{IsAutomaton}
use Rattle.auto_core.specs.Build.{IsBuilt}
use Rattle.lasso_reading.specs.Finding.{HasNoMoves}
use Rattle.lasso_reading.proofs.FindLemmas.{built_without}
use Rattle.lasso_reading.proofs.finding.without_moves.Goals as goal

pub returns-clause-none : goal.returns-clause-none
returns-clause-none c = IfOk-weaker c.of_parts.result (IsBuilt 1 c.args.labels 0 [] []) HasNoMoves (built_without c.args.labels) c.of_parts.ensures

pub returns-clause-valid : goal.returns-clause-valid
returns-clause-valid c = IfOk-weaker c.of_parts.result (IsBuilt 1 c.args.labels 0 [] []) IsAutomaton (λ A built. built.valid) c.of_parts.ensures
