use Rattle.std.proofs.Common.{inl, inr, arith}
use Rattle.auto_core.proofs.CellLemmas.{row_left}
use Rattle.bit_rows.proofs.WordLemmas.{row_anded}
use Rattle.bit_rows.proofs.tables.and_row.Goals as goal

pub returns-clause-here : goal.returns-clause-here
returns-clause-here c =
    row_anded c.args.table.now c.loop-j.table c.args.with.now c.args.width c.args.p (λ k k_in. c.loop-j.invariant.0 k (omega arith))

pub returns-clause-others : goal.returns-clause-others
returns-clause-others c =
    row_left c.args.table.now c.loop-j.table c.args.width c.args.p
    (λ k k_from. c.loop-j.invariant.1 k (omega arith)) c.loop-j.invariant.2

pub returns-clause-rest : goal.returns-clause-rest
returns-clause-rest c = λ k outside. elim outside [ inl before ↦ c.loop-j.invariant.2 k before | inr behind ↦ c.loop-j.invariant.1 k (omega arith) ]
