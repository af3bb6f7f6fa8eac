use Rattle.std.proofs.Common.{◌-◌, []}
use Rattle.cert_text.specs.Grammar.{read_rank_rows}
use Rattle.cert_text.specs.Machine.{last_key}
use Rattle.cert_text.specs.contracts.lines.Lines.rank_rows.{C-type}
use Rattle.cert_text.proofs.LinesLeftLemmas.{SoFar}
use Rattle.cert_text.proofs.lines.Lines.rank_rows.Given as goal

abbrev pub invariant-loop-row : goal.invariant-loop-row
invariant-loop-row g l = SoFar {C = C-type g.row.C} (read_rank_rows l.letters l.count [] []) (read_rank_rows l.letters (l.count - l._row) (last_key l.rows) l.rows) l.fn.self l.self
