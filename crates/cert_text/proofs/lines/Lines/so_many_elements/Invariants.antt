use Rattle.std.proofs.Common.{◌-◌, []}
use Rattle.cert_text.specs.Grammar.{read_elements}
use Rattle.cert_text.specs.contracts.lines.Lines.so_many_elements.{C-type}
use Rattle.cert_text.proofs.LinesLeftLemmas.{SoFar}
use Rattle.cert_text.proofs.lines.Lines.so_many_elements.Given as goal

abbrev pub invariant-loop-element : goal.invariant-loop-element
invariant-loop-element g l = SoFar {C = C-type g.row.C} (read_elements l.mode l.count []) (read_elements l.mode (l.count - l._element) l.elements) l.fn.self l.self
