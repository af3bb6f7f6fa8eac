use Rattle.std.proofs.Common.{◌-◌, []}
use Rattle.cert_text.specs.Grammar.{read_rows}
use Rattle.cert_text.specs.contracts.lines.Lines.rows.{C-type}
use Rattle.cert_text.proofs.LinesLeftLemmas.{SoFar}
use Rattle.cert_text.proofs.lines.Lines.rows.Given as goal

abbrev pub invariant-loop-row : goal.invariant-loop-row
invariant-loop-row g l = SoFar {C = C-type g.row.C} (read_rows l.version l.count 0 []) (read_rows l.version (l.count - l._row) l.bound l.rows) l.fn.self l.self
