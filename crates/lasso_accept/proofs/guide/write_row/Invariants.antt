use Rattle.std.proofs.Common.{◌*◌}
use Rattle.lasso_accept.proofs.GuideLemmas.{HasSpan}
use Rattle.lasso_accept.proofs.guide.write_row.Given as goal

abbrev pub invariant-loop-word : goal.invariant-loop-word
invariant-loop-word l = HasSpan l.automaton l.label l.width l.at 0 (l.word * 64) l.marked l.plain l.fn.table l.table
