use Rattle.std.proofs.Common.{[], drop}
use Rattle.cert_text.specs.Grammar.{read_steps}
use Rattle.cert_text.specs.contracts.lines.Lines.steps.{C-type}
use Rattle.cert_text.proofs.LinesLeftLemmas.{SoFar}
use Rattle.cert_text.proofs.lines.Lines.steps.Given as goal

abbrev pub invariant-loop-at : goal.invariant-loop-at
invariant-loop-at g l = SoFar {C = C-type g.row.C} (read_steps 0 l.elements []) (read_steps l.at (drop l.at l.elements) l.steps) l.fn.self l.self
