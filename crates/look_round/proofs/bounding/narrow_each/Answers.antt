use Rattle.std.proofs.Common.{refl, arith}
use Rattle.look_round.proofs.ColumnLemmas.{rows_narrowed_more}
use Rattle.look_round.proofs.bounding.narrow_each.Goals as goal

pub loop-p-init : goal.loop-p-init
loop-p-init c = (λ r r_in. absurd (omega arith), λ r q r_from near. refl)

pub loop-p-preserved : goal.loop-p-preserved
loop-p-preserved c =
    rows_narrowed_more c.args.table.now c.loop-p.table c.narrow_row.new.table c.args.width c.args.columns.now c.args.used c.loop-p.p
    c.loop-p.invariant c.narrow_row.ensures.here c.narrow_row.ensures.others

pub returns : goal.returns
returns c = λ p p_in. c.loop-p.invariant.0 p (omega (arith, c.loop-p-test.false))
