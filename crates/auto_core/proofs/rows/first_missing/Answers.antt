use Rattle.std.proofs.Common.{rules, arith}
use Rattle.std.proofs.Math.Facts.{Fits-lt-pow}
use Rattle.auto_core.proofs.BitLemmas.{missing_found, none_before, none_missing}
use Rattle.auto_core.proofs.rows.first_missing.Goals as goal

pub returns-then-missing-ne0-clause-found : goal.returns-then-missing-ne0-clause-found
returns-then-missing-ne0-clause-found c =
    missing_found c.args.row.now c.args.other.now c.loop-i.i (Fits-lt-pow (c.type_inv.row c.loop-i.i)) (Fits-lt-pow (c.type_inv.other c.loop-i.i)) c.loop-i-test.true
    (search rules) (search rules)

pub returns-then-missing-ne0-clause-first : goal.returns-then-missing-ne0-clause-first
returns-then-missing-ne0-clause-first c =
    none_before c.args.row.now c.args.other.now c.loop-i.i (λ k. Fits-lt-pow (c.type_inv.row k)) (λ k. Fits-lt-pow (c.type_inv.other k)) c.loop-i.invariant
    (search rules) (search rules)

pub returns-clause-none : goal.returns-clause-none
returns-clause-none c =
    none_missing c.args.row.now c.args.other.now (λ i. Fits-lt-pow (c.type_inv.row i)) (λ i. Fits-lt-pow (c.type_inv.other i)) (λ k k_in. c.loop-i.invariant k (omega arith))
