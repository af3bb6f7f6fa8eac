use Rattle.std.proofs.Common.{◌≡◌, ℕ, ◌-◌, ◌*◌, ◌<◌, ◌≤◌, false, arith, rules}
use Rattle.std.proofs.lemmas.Nat.{row_fits}
use Rattle.auto_core.specs.Rows.{HasBit, bit_of}
use Rattle.auto_core.specs.Reach.{HasArc}
use Rattle.graph_rows.proofs.UnionLemmas.{gathered_none, gathered_more, gathered_all}
use Rattle.graph_rows.proofs.unions.gather.Goals as goal

pub row_at-moves-requires : goal.row_at-moves-requires
row_at-moves-requires g c =
    let here : HasBit c.args.marks.now c.in-Some.middle = search rules in
    omega (arith, row_fits c.in-Some.middle c.args.width c.args.count c.args.width (c.requires.marks_below c.in-Some.middle here) (omega arith), c.requires.table.len)

pub loop-middle-init : goal.loop-middle-init
loop-middle-init g c =
    let R : ℕ → ℕ → Type 0 = HasArc c.args.table.now c.args.count c.args.width in (
      gathered_none (HasBit c.args.marks.now) R 0 (g.row.N * 64) c.clear_row.new.row c.clear_row.ensures,
      gathered_none (HasBit c.args.marks.now) R ((c.args.width - g.row.N) * 64) (g.row.N * 64) c.clear_row-2.new.row c.clear_row-2.ensures,
      omega arith,
    )

pub loop-middle-preserved : goal.loop-middle-preserved
loop-middle-preserved g c =
    let n : ℕ = c.args.count in
    let w : ℕ = c.args.width in
    let h : ℕ = g.row.N in
    let at : ℕ = c.loop-middle.at in
    let middle : ℕ = c.in-Some.middle in
    let here : HasBit c.args.marks.now middle = search rules in
    let from : at ≤ middle = search rules in
    let none : (k : ℕ) → at ≤ k → k < middle → bit_of c.args.marks.now k ≡ false = search rules in
    let near : middle < w * 64 = search rules in
    let middle_in : middle < n = c.requires.marks_below middle here in
    let fits : h ≤ w = c.requires.half in (
      gathered_more c.args.table.now c.args.marks.now c.row_at-moves.result.now c.loop-middle.low c.join_words.new.into n w at middle 0 (h * 64) 0
          c.requires.table middle_in (omega arith) from here none (omega arith) c.row_at-moves.ensures.bits
          (λ i i_in. c.join_words.ensures i (omega (arith, i_in))) c.loop-middle.invariant.0,
      gathered_more c.args.table.now c.args.marks.now c.row_at-moves.result.now c.loop-middle.high c.join_words-in-Some.new.into n w at middle ((w - h) * 64) (h * 64) (w - h)
          c.requires.table middle_in (omega arith) from here none (omega arith) c.row_at-moves.ensures.bits
          (λ i i_in. c.join_words-in-Some.ensures i (omega (arith, i_in))) c.loop-middle.invariant.1,
      omega arith,
    )

pub returns-clause-low : goal.returns-clause-low
returns-clause-low g c =
    let none : (k : ℕ) → c.loop-middle.at ≤ k → bit_of c.args.marks.now k ≡ false = search rules in
    gathered_all c.args.marks.now c.loop-middle.low (HasArc c.args.table.now c.args.count c.args.width) c.loop-middle.at 0 (g.row.N * 64) none c.loop-middle.invariant.0

pub returns-clause-high : goal.returns-clause-high
returns-clause-high g c =
    let none : (k : ℕ) → c.loop-middle.at ≤ k → bit_of c.args.marks.now k ≡ false = search rules in
    gathered_all c.args.marks.now c.loop-middle.high (HasArc c.args.table.now c.args.count c.args.width) c.loop-middle.at ((c.args.width - g.row.N) * 64) (g.row.N * 64) none c.loop-middle.invariant.1
