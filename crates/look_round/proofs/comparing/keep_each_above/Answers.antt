use Rattle.std.proofs.Common.{ℕ, ◌*◌, ◌<◌, List, length, refl, sym, ap, ◌∙◌, inl, inr, le_refl, arith}
use Rattle.std.proofs.lemmas.Bool.{cases_lt, false≢true}
use Rattle.auto_core.specs.Rows.{bit_of, HasBit, HasCell}
use Rattle.look_round.proofs.ColumnLemmas.{AreRowsNarrowed, rows_narrowed_more}
use Rattle.look_round.proofs.CompareLemmas.{compared}
use Rattle.look_round.proofs.comparing.keep_each_above.Goals as goal

-- the row that is next has states alone, since it is as it was
row_states :
    (old now columns : List ℕ) (width used p count : ℕ)
    → ((r q : ℕ) → r < count → q < width * 64 → HasCell old width r q → q < count)
    → AreRowsNarrowed old now width columns used p
    → p < count
    → (q : ℕ)
    → q < width * 64
    → HasCell now width p q
    → q < count
row_states old now columns width used p count states h p_in q near cell = states p q p_in near (sym (h.1 p q (le_refl p) near) ∙ cell)

pub loop-p-init : goal.loop-p-init
loop-p-init c = ((λ r r_in. absurd (omega arith), λ r q r_from near. refl), c.requires.len)

pub keep_above-requires-clause-row : goal.keep_above-requires-clause-row
keep_above-requires-clause-row c = λ q near. ap (λ row. bit_of row q) c.copy_from_slice.ensures.after ∙ c.row_at.ensures.bits q near

pub keep_above-requires-clause-states : goal.keep_above-requires-clause-states
keep_above-requires-clause-states c = λ q bit.
    let has : HasBit c.row_at.result.now q = sym (ap (λ row. bit_of row q) c.copy_from_slice.ensures.after) ∙ bit in
    elim (cases_lt q (c.args.width * 64)) [
      | inl near ↦
          row_states c.args.table.now c.loop-p.table c.args.columns.now c.args.width c.args.used c.loop-p.p c.args.count c.requires.states c.loop-p.invariant.0 c.loop-p-test.true q near
          (sym (c.row_at.ensures.bits q near) ∙ has)
      | inr past ↦ absurd (false≢true (sym (c.row_at.ensures.outside q past) ∙ has))
    ]

pub loop-p-preserved : goal.loop-p-preserved
loop-p-preserved c =
    let old = c.args.table.now in
    let now = c.loop-p.table in
    let p : ℕ = c.loop-p.p in
    let states = row_states old now c.args.columns.now c.args.width c.args.used p c.args.count c.requires.states c.loop-p.invariant.0 c.loop-p-test.true in
    let narrowed = compared now c.keep_above.new.table c.args.width c.args.columns.now p c.args.used c.args.had.now c.args.span c.args.count c.loop-p-test.true c.requires.room states c.requires.had c.keep_above.ensures.here in (
      rows_narrowed_more old now c.keep_above.new.table c.args.width c.args.columns.now c.args.used p c.loop-p.invariant.0 narrowed c.keep_above.ensures.others,
      ap length c.copy_from_slice.ensures.after ∙ c.row_at.ensures.len,
    )

pub returns : goal.returns
returns c = λ p p_in. c.loop-p.invariant.0.0 p (omega (arith, c.loop-p-test.false))
