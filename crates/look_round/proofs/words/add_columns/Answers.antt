use Rattle.std.proofs.Common.{ℕ, ◌+◌, ◌≤◌, List, sym, subst, arith}
use Rattle.look_round.specs.Words.{AddsColumns}
use Rattle.look_round.proofs.ColumnLemmas.{adds_none, adds_passed, adds_one}
use Rattle.look_round.proofs.words.add_columns.Goals as goal
use Rattle.look_round.proofs.words.add_columns.Goals.{then-count-room+then-is_new, else-count-room}

pub loop-a-init : goal.loop-a-init
loop-a-init c = (adds_none c.args.columns.now c.args.width c.args.count c.args.made.now, c.requires.count)

pub loop-a-preserved : goal.loop-a-preserved
loop-a-preserved c =
    let old = c.args.columns.now in
    let now = c.loop-a.columns in
    let w = c.args.width in
    let a = c.loop-a.a in
    let made = c.args.made.now in
    let P : List ℕ → ℕ → Type 0 = λ t n. AddsColumns old t w c.args.count n made (a + 1) × (n ≤ c.args.room) in
    elim c.if-count-room.branch [
      | then-count-room+then-is_new b ↦
          let lt = b.if-count-room.true in
          subst (λ t. P t c.if-count-room.count) (sym b.columns-is)
          (subst (λ n. P b.write_row.new.table n) (sym b.count-is) (
            adds_one old now b.write_row.new.table w c.args.count c.loop-a.count made c.row_at-row.result.now a c.loop-a.invariant.0 c.row_at-row.ensures.bits b.write_row.ensures.here b.write_row.ensures.others,
            omega arith,
          ))
      | else-count-room b ↦
          subst (λ t. P t c.if-count-room.count) (sym b.columns-is)
          (subst (λ n. P now n) (sym b.count-is) (adds_passed old now w c.args.count c.loop-a.count made a c.loop-a.invariant.0, c.loop-a.invariant.1))
    ]
