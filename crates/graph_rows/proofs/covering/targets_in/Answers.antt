use Rattle.std.proofs.Common.{◌*◌, ◌+◌, ◌<◌, arith}
use Rattle.graph_rows.proofs.CoveringLemmas.{targets_more}
use Rattle.graph_rows.proofs.PrintLemmas.{unmarked}
use Rattle.graph_rows.proofs.covering.targets_in.Goals as goal

pub loop-row-init : goal.loop-row-init
loop-row-init c = λ j j_in. (λ bit. absurd (unmarked j bit), λ (s, s_in, cell). absurd (omega (arith, s_in)))

pub loop-row-preserved : goal.loop-row-preserved
loop-row-preserved c = λ j j_in. targets_more c.args.table.now c.args.width c.args.word c.loop-row.row c.loop-row.targets j j_in (c.loop-row.invariant j j_in)

pub returns : goal.returns
returns c = λ j j_in.
    let is = c.loop-row.invariant j j_in in
    let room = c.requires.table.room in (
      λ bit.
          let (s, s_in, cell) = is.0 bit in
          let row_in : s < c.args.count = omega (arith, s_in) in
          let near : c.args.word * 64 + j < c.args.width * 64 = omega arith in
          (s, (row_in, c.requires.table.columns s (c.args.word * 64 + j) row_in near cell, cell)),
      λ (s, arc). let row_in : s < c.args.count = arc.0 in is.1 (s, omega arith, arc.2),
    )
