use Rattle.std.proofs.Common.{◌-◌, []}
use Rattle.cert_text.specs.Grammar.{read_first_steps}
use Rattle.cert_text.specs.contracts.lines.Lines.first_steps.{C-type}
use Rattle.cert_text.proofs.LinesLeftLemmas.{SoFar}
use Rattle.cert_text.proofs.lines.Lines.first_steps.Given as goal

abbrev pub invariant-loop-step : goal.invariant-loop-step
invariant-loop-step g l = SoFar {C = C-type g.row.C} (read_first_steps l.version l.count []) (read_first_steps l.version (l.count - l._step) l.steps) l.fn.self l.self
