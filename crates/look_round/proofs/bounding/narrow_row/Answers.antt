use Rattle.std.proofs.Common.{◌≡◌, ℕ, ◌+◌, ◌*◌, ◌<◌, ◌∙◌, subst, arith}
use Rattle.look_round.specs.Words.{IsRowNarrowed}
use Rattle.look_round.proofs.ColumnLemmas.{row_narrowed_more, row_narrowed_alone}
use Rattle.look_round.proofs.bounding.narrow_row.Goals as goal

pub returns-then-narrow_by-clause-here : goal.returns-then-narrow_by-clause-here
returns-then-narrow_by-clause-here c =
    let old = c.args.table.now in
    let new = c.narrow_by.new.table in
    let w : ℕ = c.args.width in
    let p : ℕ = c.args.p in
    let i : ℕ = c.loop-i.i in
    let columns = c.args.columns.now in
    let own = c.requires.own in
    let near : p < w * 64 = omega arith in
    let more = row_narrowed_more old c.loop-i.table new w columns c.row_at.result.now p i near c.loop-i.invariant.0 c.row_at.ensures.bits c.narrow_by.ensures.here in
    row_narrowed_alone old new w columns p (i + 1) c.args.used (omega (arith, c.loop-i-test.true)) more
    (c.narrow_by.ensures.alone c.if-narrow_by.true)

pub loop-i-preserved : goal.loop-i-preserved
loop-i-preserved c =
    let w : ℕ = c.args.width in
    let p : ℕ = c.args.p in
    let own = c.requires.own in
    let near : p < w * 64 = omega arith in (
      row_narrowed_more c.args.table.now c.loop-i.table c.narrow_by.new.table w c.args.columns.now c.row_at.result.now p c.loop-i.i near c.loop-i.invariant.0 c.row_at.ensures.bits c.narrow_by.ensures.here,
      λ r q q_near apart. c.narrow_by.ensures.others r q q_near apart ∙ c.loop-i.invariant.1 r q q_near apart,
    )

pub returns-clause-here : goal.returns-clause-here
returns-clause-here c =
    let all : c.loop-i.i ≡ c.args.used = omega (arith, c.loop-i-test.false, c.loop-i.auto.i-end) in
    subst (λ (n : ℕ). IsRowNarrowed c.args.table.now c.loop-i.table c.args.width c.args.columns.now c.args.p n) all c.loop-i.invariant.0
