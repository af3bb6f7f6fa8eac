use Rattle.std.proofs.Common.{◌-◌, []}
use Rattle.cert_text.specs.Grammar.{read_blocks}
use Rattle.cert_text.specs.contracts.lines.Lines.blocks.{C-type}
use Rattle.cert_text.proofs.LinesLeftLemmas.{SoFar}
use Rattle.cert_text.proofs.lines.Lines.blocks.Given as goal

abbrev pub invariant-loop-block : goal.invariant-loop-block
invariant-loop-block g l = SoFar {C = C-type g.row.C} (read_blocks l.version l.count []) (read_blocks l.version (l.count - l._block) l.blocks) l.fn.self l.self
