use Rattle.std.proofs.Common.{ℕ, ◌+◌, ◌-◌, ◌*◌, ◌<◌, ◌≤◌, length, slice_index, refl, le_refl, arith}
use Rattle.std.proofs.lemmas.Nat.{row_fits}
use Rattle.bit_rows.proofs.TransposedLemmas.{written_none, written_more}
use Rattle.bit_rows.proofs.transposing.write_block.Goals as goal

pub loop-c-init : goal.loop-c-init
loop-c-init c = (written_none c.args.turned.now c.args.block.now c.args.span c.args.first c.args.word, le_refl c.args.first, omega arith)

pub loop-c-preserved : goal.loop-c-preserved
loop-c-preserved c =
    let block = c.args.block.now in
    let now = c.loop-c.turned in
    let at : ℕ = c.loop-c.c in
    let span : ℕ = c.args.span in
    let word : ℕ = c.args.word in
    let upward : c.args.first ≤ at = c.loop-c.invariant.1 in
    let near : at + 1 ≤ c.args.first + 64 = omega (arith, c.loop-c-test.true, c.min-c-end.ensures) in
    let in_columns : at < c.args.columns = omega (arith, c.loop-c-test.true, c.min-c-end.ensures) in
    let row = row_fits at span c.args.columns span in_columns (le_refl span) in
    let place : at * span + word < length now = omega (arith, c.loop-c.auto.turned, c.requires.turned, c.requires.word) in (
      written_more c.args.turned.now now block span c.args.first word at (slice_index block (at - c.args.first)) c.requires.word place upward c.loop-c.invariant.0 refl,
      omega arith,
      near,
    )

pub returns-clause-here : goal.returns-clause-here
returns-clause-here c = λ k from near k_in. c.loop-c.invariant.0.here k from (omega (arith, c.loop-c-test.false, c.min-c-end.ensures))

pub returns-clause-others : goal.returns-clause-others
returns-clause-others c = λ k r r_in apart.
    let at = c.loop-c.invariant.2 in
    c.loop-c.invariant.0.others k r r_in (λ is. let lt = is.2 in apart (is.0, is.1, omega arith))
